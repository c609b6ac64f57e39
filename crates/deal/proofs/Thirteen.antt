-- Thirteen cards each: the first seat without, by the set bits of the four hands.
-- Assumes nothing.
use Rattle.std.specs.Prelude.{if◌then◌else◌}
use mathlib.Core.Path.{◌≡◌, refl, ap, ◌∙◌}
use mathlib.Core.Bool.{true, false, not}
use Rattle.std.proofs.Common.{unwrap_or, add-one, add-zero}
use lib.Dec.{eqb}
use Rattle.std.specs.List.{position, position_from}
use Rattle.std.proofs.lemmas.Iterator.Adapters.{position_from-zero}
use mathlib.Core.List.{List, [], ◌∷◌}
use Prim.Native.Nat.{ℕ, zero, suc, ◌+◌, ◌≤◌, ◌<◌}
use native.Mathlib.Omega.{arith}
use borrow.Author.Tests.{eqb-true, eq-eqb}
use lib.Count.{ones}
use lib.ListN.{length, get_or, drop}
use lib.Seq.{drop-cons}
use Rattle.laws.specs.Cards.{no_seat, cards_dealt, has_thirteen, seats, first_without_thirteen, seat_without_thirteen}
use Rattle.laws.proofs.Tests.{by_test}
use Rattle.deal.specs.Hands.{words_of, not_thirteen_from}
use Rattle.deal.proofs.Words.{ones_word}

-- place k of the seats is seat k
seat_at_lem : (k : ℕ) → k < 4 → get_or seats k 0 ≡ k
seat_at_lem zero h = refl
seat_at_lem (suc zero) h = refl
seat_at_lem (suc (suc zero)) h = refl
seat_at_lem (suc (suc (suc zero))) h = refl
seat_at_lem (suc (suc (suc (suc k)))) h = absurd (omega arith)

-- the seats from k on: k itself first
front : (l : List ℕ) (k : ℕ) → k < 4 → first_without_thirteen l (drop k seats) ≡ (if has_thirteen k l then first_without_thirteen l (drop (suc k) seats) else k)
unfolding first_without_thirteen
front l k h = ap (first_without_thirteen l) (drop-cons seats k 0 h) ∙ rw (seat_at_lem k h)

module _ (l : List ℕ) where
  -- seats below k that have thirteen are passed
  passed : (k : ℕ) → k ≤ 4 → ((j : ℕ) → j < k → cards_dealt j l ≡ 13) → seat_without_thirteen l ≡ first_without_thirteen l (drop k seats)
  passed zero h all = refl
  passed (suc k) h all =
      passed k (omega arith) (λ j low. all j (omega arith))
      ∙ front l k (omega arith)
      ∙ rw (eq-eqb (cards_dealt k l) 13 (all k (omega arith)))

  -- where each has thirteen, no seat is short
  pub each-thirteen : ((j : ℕ) → j < 4 → cards_dealt j l ≡ 13) → seat_without_thirteen l ≡ no_seat
  unfolding first_without_thirteen
  each-thirteen all = passed 4 (omega arith) all

  -- none of the seats from k on is short: k has thirteen, and none of the later ones is short
  none_from : (k : ℕ) → k < 4 → first_without_thirteen l (drop k seats) ≡ no_seat → (cards_dealt k l ≡ 13) × (first_without_thirteen l (drop (suc k) seats) ≡ no_seat)
  none_from k h e =
      by_test (has_thirteen k l)
      (λ (q : has_thirteen k l ≡ true). (eqb-true (cards_dealt k l) 13 q, rw (front l k h, q) at e))
      (λ (q : has_thirteen k l ≡ false). absurd (let z : k ≡ 4 = rw (front l k h, q) at e in omega arith))

  none_after : seat_without_thirteen l ≡ no_seat → (k : ℕ) → k ≤ 4 → first_without_thirteen l (drop k seats) ≡ no_seat
  none_after e zero h = e
  none_after e (suc k) h = (none_from k (omega arith) (none_after e k (omega arith))).1

  -- where no seat is short, each has thirteen
  pub thirteen-each : seat_without_thirteen l ≡ no_seat → (k : ℕ) → k < 4 → cards_dealt k l ≡ 13
  thirteen-each e k h = (none_from k h (none_after e k (omega arith))).0

-- ---- by the four hands of a deal
-- the first without thirteen set bits is the first seat without thirteen cards
pub by_hands : (l : List ℕ) → not_thirteen_from 0 (words_of l) ≡ seat_without_thirteen l
unfolding not_thirteen_from words_of first_without_thirteen
by_hands l = rw (ones_word 0 l, ones_word 1 l, ones_word 2 l, ones_word 3 l)

-- the place of the first hand without thirteen set bits, counted on from a seat; past the last where each has them
from_seat : (seat last : ℕ) (hands : List ℕ) → last ≡ seat + length hands
    → unwrap_or (position_from (λ (hand : ℕ). not (eqb (ones hand) 13)) seat hands) last ≡ not_thirteen_from seat hands
unfolding not_thirteen_from
from_seat seat last [] e = e ∙ add-zero seat
from_seat seat last (hand ∷ rest) e =
    by_test (eqb (ones hand) 13)
    (λ (q : eqb (ones hand) 13 ≡ true). rw (q, add-one seat) (from_seat (suc seat) last rest (omega (arith, e))))
    (λ (q : eqb (ones hand) 13 ≡ false). rw q)

pub first_hand : (hands : List ℕ) (last : ℕ) → last ≡ length hands
    → unwrap_or (position (λ (hand : ℕ). not (eqb (ones hand) 13)) hands) last ≡ not_thirteen_from 0 hands
first_hand hands last e =
    rw (position_from-zero (λ (hand : ℕ). not (eqb (ones hand) 13)) hands) (from_seat 0 last hands (omega (arith, e)))
