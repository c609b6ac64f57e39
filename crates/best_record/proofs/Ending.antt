-- The position after a record's last card gives the Laws' answer: a law for each way out. Assumes nothing.
use Prim.Native.Nat.{ℕ, ◌-◌, ◌%◌, ◌≤◌}
use native.Mathlib.Omega.{arith}
use mathlib.Core.Path.{◌≡◌, refl, sym, ap, subst, ◌∙◌}
use mathlib.Core.Bool.{Bool, true, false, not, ◌&&◌}
use mathlib.Core.List.{List}
use borrow.Author.Tests.{lt-leb, le-leb, leb-true, leb-false}
use lib.Dec.{leb, eqb}
use Rattle.laws.specs.Refusals.{refused_at, given, no_ending}
use Rattle.laws.specs.Law2.{dealer}
use Rattle.laws.specs.Auction as Law
use Rattle.laws.specs.Law44.{cards_played, cards_in_trick}
use Rattle.laws.specs.Events.{cards_of}
use Rattle.laws.specs.Reading.{Reading, Reading.found, onward, refuse}
use Rattle.laws.specs.LastCard.{ToLastCard, read_to_last_card}
use Rattle.laws.specs.BestRecord.{trump_in, opening_in, side_in, is_ending, best_after, read_best, answer, best_of}
use Rattle.laws.proofs.Tests.{by_test}
use Rattle.laws.proofs.LastCard.{last-card-found}
use Rattle.auction.proofs.Laws.{contract-is}
use Rattle.play.proofs.Stands.{stands}
use Rattle.play.proofs.Thirteen.{at_most_52}
use Rattle.position.proofs.AtMost.{cards-allowed}
use Rattle.position.proofs.TableStands.{play-is}
use Rattle.best_play.specs.Search.{best_in}
use Rattle.best_play.proofs.Laws.{best-is}
use Rattle.last_card.specs.declared.reached.Reached.{Reached}
use Rattle.last_card.specs.declared.reading.Read.{Read}
use Rattle.last_card.specs.Reached.{reached_as, reached_of}
use Rattle.last_card.proofs.Told.{told-refused, told-found}
use Rattle.last_card.proofs.Standing.{events_played}
use Rattle.best_record.specs.Ending.{ending_at}

-- ---- an ending, by the number of cards played
ending_by : (out : Bool) (played : ℕ) → played ≤ 52 → ending_at out played ≡ (not out && (leb (52 - played) 16 && eqb (played % 4) 0))
ending_by out played h =
    by_test (leb 36 played)
    (λ (q : leb 36 played ≡ true). rw (q, le-leb (52 - played) 16 (omega (arith, leb-true 36 played q))) refl)
    (λ (q : leb 36 played ≡ false). rw (q, lt-leb (52 - played) 16 (omega (arith, leb-false 36 played q))) refl)

-- ---- the code's answer, of what was read
module _ (bytes : List ℕ) where
  abbrev pub rest : Reading ToLastCard → Reading ℕ
  rest q = onward q (λ r at. onward (refuse 31 0 (not (is_ending r)) bytes at) (λ _ behind. found (best_after r) behind))

  pub said-is : best_of bytes ≡ answer (rest (read_to_last_card bytes 0))
  unfolding best_of read_best
  said-is = refl

  -- what the position stands for
  record Told (r : ToLastCard) (x : Reached) : Type 0 where
    ending : ending_at x.out x.after.play.played ≡ is_ending r
    best : best_in (x.contract.declarer % 2) x.after.play ≡ best_after r

  told : (r : ToLastCard) (at : ℕ) → read_to_last_card bytes 0 ≡ found r at → Told r (reached_as r)
  unfolding is_ending best_after cards_in_trick Law.contract
  told r at q =
      let s = last-card-found bytes r at q in
      let g = cards_of r.plays in
      let all = s.dealt.holders in
      let allowed = cards-allowed r.deal (trump_in r) (opening_in r) r.plays (events_played s) in
      let place = play-is r.deal (trump_in r) (opening_in r) r.plays (events_played s) in
      let played = (stands r.deal (trump_in r) (opening_in r) all g allowed).played in
      let declared = ap (λ (k : Law.Contract). k.declarer) (contract-is (dealer r.board) r.calls) in
      record {
        ending = rw (place, played) (ending_by (Law.passed_out r.calls) (cards_played g) (at_most_52 r.deal (trump_in r) (opening_in r) all g allowed));
        best = rw (place, declared) (best-is r.deal (trump_in r) (opening_in r) all (side_in r) g allowed);
      }

  pub refused-alike : {n place : ℕ} → refused_at n place ≡ reached_of (read_to_last_card bytes 0) → refused_at n place ≡ best_of bytes
  refused-alike e = rw (said-is, told-refused reached_as (read_to_last_card bytes 0) e) refl

  module _ {x : Read Reached} (ex : given x ≡ reached_of (read_to_last_card bytes 0)) where
    read : (r : ToLastCard) × (read_to_last_card bytes 0 ≡ found r x.next) × (x.value ≡ reached_as r)
    read = told-found reached_as (read_to_last_card bytes 0) ex

    stands-for : Told read.0 x.value
    stands-for = subst (λ (y : Reached). Told read.0 y) (sym read.2) (told read.0 x.next read.1)

    pub no_ending_lem : ending_at x.value.out x.value.after.play.played ≡ false → refused_at no_ending 0 ≡ best_of bytes
    unfolding refuse
    no_ending_lem o = rw (said-is, read.1, sym stands-for.ending ∙ o) refl

    pub ending-best : ending_at x.value.out x.value.after.play.played ≡ true
        → given (best_in (x.value.contract.declarer % 2) x.value.after.play) ≡ best_of bytes
    unfolding refuse
    ending-best o = rw (said-is, read.1, sym stands-for.ending ∙ o) (ap given stands-for.best)
