-- What is answered for a record: four tricks at the most, or a refusal up to the last card or 31, with its place. Assumes nothing.
use Prim.Native.Nat.{ℕ, ◌≤◌, ◌<◌}
use native.Mathlib.Omega.{arith}
use mathlib.Core.Path.{◌≡◌, refl, subst}
use mathlib.Core.Logic.{◌⊎◌, inl, inr}
use mathlib.Core.Bool.{true, false, not}
use mathlib.Core.List.{List}
use borrow.Author.Tests.{leb-true, leb-false, le-leb, lt-leb}
use lib.Dec.{leb, lit≤}
use Rattle.laws.specs.Refusals.{Placed, refused_at, given, refuses_to_last_card}
use Rattle.laws.specs.Auction.{passed_out}
use Rattle.laws.specs.Law44.{tricks_complete, tricks_left}
use Rattle.laws.specs.Reading.{Reading, Reading.refused, Reading.found, refuse}
use Rattle.laws.specs.LastCard.{ToLastCard, read_to_last_card}
use Rattle.laws.specs.BestRecord.{trump_in, opening_in, side_in, cards_in, cards_left, is_ending, best_after, answer, best_of}
use Rattle.laws.proofs.Tests.{by_test, not_both, and_left, and_right}
use Rattle.laws.proofs.Numbered.{Fair, fair_last_card}
use Rattle.laws.proofs.LastCard.{last-card-found}
use Rattle.position.proofs.AtMost.{cards-allowed}
use Rattle.best_play.proofs.SomeCard.{at_most_left}
use Rattle.last_card.proofs.Standing.{events_played}
use Rattle.best_record.proofs.Ending.{rest, said-is}

-- a refusal up to the last card is 2 to 27
from_2 : (n : ℕ) → refuses_to_last_card n ≡ true → 2 ≤ n
from_2 n e =
    by_test (leb 2 n)
    (λ (q : leb 2 n ≡ true). leb-true 2 n q)
    (λ (q : leb 2 n ≡ false).
    let low = leb-false 2 n q in
    not_both (refuses_to_last_card n) e (rw (q, lt-leb 23 n (omega arith))))

to_27 : (n : ℕ) → refuses_to_last_card n ≡ true → n ≤ 27
to_27 n e =
    by_test (leb n 27)
    (λ (q : leb n 27 ≡ true). leb-true n 27 q)
    (λ (q : leb n 27 ≡ false).
    let high = leb-false n 27 q in
    not_both (refuses_to_last_card n) e (rw (le-leb 2 n (omega arith), lt-leb n 12 (omega arith), le-leb 23 n (omega arith), q)))

-- what an answer may be
abbrev pub Tricks : Placed ℕ → Type 0
Tricks x = (tricks : ℕ) × (x ≡ given tricks) × (tricks ≤ 4)

abbrev pub Refusal : Placed ℕ → Type 0
Refusal x = (n : ℕ) × (place : ℕ) × (x ≡ refused_at n place) × (2 ≤ n) × (n ≤ 31) × (place < 1024)

module _ (bytes : List ℕ) where
  -- no more tricks than are left, of which there are four at the most in an ending
  pub at_most : (r : ToLastCard) (at : ℕ) → read_to_last_card bytes 0 ≡ found r at → best_after r ≤ tricks_left (cards_in r)
  unfolding best_after
  at_most r at q =
      let s = last-card-found bytes r at q in
      at_most_left (trump_in r) (opening_in r) r.deal s.dealt.holders s.dealt.thirteen (cards_in r)
      (cards-allowed r.deal (trump_in r) (opening_in r) r.plays (events_played s)) (side_in r)

  four : (r : ToLastCard) (at : ℕ) → read_to_last_card bytes 0 ≡ found r at → is_ending r ≡ true → best_after r ≤ 4
  unfolding is_ending tricks_left tricks_complete
  four r at q e =
      let left = leb-true (cards_left r) 16 (and_left (leb (cards_left r) 16) _ (and_right (not (passed_out r.calls)) _ e)) in
      omega (arith, at_most r at q, left)

  either : (q : Reading ToLastCard) → read_to_last_card bytes 0 ≡ q → Tricks (answer (rest bytes q)) ⊎ Refusal (answer (rest bytes q))
  unfolding refuse
  either (refused n place) q =
      let f = subst (Fair refuses_to_last_card) q (fair_last_card bytes) in
      inr (n, place, refl, from_2 n f.number, omega (arith, to_27 n f.number), f.place_lt)
  either (found r at) q =
      by_test (is_ending r)
      (λ (t : is_ending r ≡ true). rw t (inl (best_after r, refl, four r at q t)))
      (λ (t : is_ending r ≡ false). rw t (inr (31, 0, refl, lit≤ tt, lit≤ tt, omega arith)))

  pub told : Tricks (best_of bytes) ⊎ Refusal (best_of bytes)
  told = rw (said-is bytes) (either (read_to_last_card bytes 0) refl)
