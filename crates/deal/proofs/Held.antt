-- A hand's cards of a suit, by its bits. Assumes nothing.
use mathlib.Core.Path.{◌≡◌, refl, sym, ap, ◌∙◌}
use mathlib.Core.Bool.{true, false, not}
use mathlib.Core.List.{List}
use Prim.Native.Nat.{ℕ, ◌*◌, ◌/◌, ◌%◌, ◌^◌, ◌<◌}
use borrow.Author.Tests.{lt-ltb, le-ltb, ltb-true, ltb-false}
use lib.Dec.{eqb, ltb}
use lib.Count.{ones}
use lib.ListN.{length}
use Rattle.laws.proofs.Tests.{by_test}
use Rattle.deal.specs.Hands.{word_of, suit_bits, has_suit, suit_count, holds_one}
use Rattle.deal.proofs.Words.{bit, suit-bits}
use Rattle.deal.proofs.Suits.{no_suit_lem, suit-held-is}

-- ---- a suit's cards
pub suit_in : (hand suit bit : ℕ) → suit < 4 → bit ≡ 2 ^ (13 * suit) → ones (hand / bit % 8192) ≡ suit_bits hand suit
unfolding suit_bits
suit_in hand suit bit h e = rw (lt-ltb suit 4 h, e)

pub suit_out : (hand suit : ℕ) → 3 < suit → 0 ≡ suit_bits hand suit
unfolding suit_bits
suit_out hand suit h = rw (le-ltb suit 4 h)

-- the hand of a seat has a card of a suit exactly when the seat holds one
pub has-holds : (l : List ℕ) → length l ≡ 52 → (s suit : ℕ) → has_suit (word_of s l) suit ≡ holds_one l s suit
unfolding has_suit
has-holds l long s suit = ap (λ (n : ℕ). not (eqb n 0)) count ∙ suit-held-is l long s suit
  where
    count : suit_bits (word_of s l) suit ≡ suit_count s suit l
    count =
        by_test (ltb suit 4)
        (λ (q : ltb suit 4 ≡ true). sym (suit_in (word_of s l) suit (2 ^ (13 * suit)) (ltb-true suit 4 q) refl) ∙ suit-bits s suit l)
        (λ (q : ltb suit 4 ≡ false). sym (suit_out (word_of s l) suit (ltb-false suit 4 q)) ∙ sym (no_suit_lem s suit l long (ltb-false suit 4 q)))
