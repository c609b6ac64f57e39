-- Which card may be played from a position, case by case. Assumes nothing.
use Prim.Native.Nat.{ℕ, ◌/◌, ◌%◌, ◌<◌}
use mathlib.Core.Path.{◌≡◌, ◌∙◌}
use mathlib.Core.Bool.{Bool, true, false, not}
use borrow.Author.Tests.{lt-leb, eq-eqb, ne_eqb}
use lib.Dec.{eqb}
use lib.ListN.{length, get_or}
use native.Mathlib.Omega.{arith}
use Rattle.laws.specs.Cards.{no_seat, dealt_to}
use Rattle.laws.proofs.Counts.{any_default}
use Rattle.deal.specs.Hands.{has_suit}
use Rattle.play.specs.declared.Play.{Play}
use Rattle.play.specs.Position.{turn_of, hand_of, could_follow}
use Rattle.best_play.specs.Search.{may_in}

module _ (p : Play) (card seat : ℕ) (n : length p.holders ≡ 52) (low : card < 52) (es : seat ≡ turn_of p) where
  place : dealt_to p.holders card ≡ get_or p.holders card 0
  place = any_default p.holders card no_seat 0 (omega arith)

  -- the card is in another hand
  pub elsewhere : (get_or p.holders card 0 ≡ seat → ⊥) → false ≡ may_in p card
  unfolding may_in
  elsewhere o = rw (lt-leb 52 card low, place, ← es, ne_eqb (get_or p.holders card 0) seat o)

  module _ (here : get_or p.holders card 0 ≡ seat) where
    is_here : eqb (dealt_to p.holders card) (turn_of p) ≡ true
    is_here = eq-eqb (dealt_to p.holders card) (turn_of p) (place ∙ here ∙ es)

    -- it leads
    pub as_lead : p.played % 4 ≡ 0 → true ≡ may_in p card
    unfolding may_in
    as_lead z = rw (lt-leb 52 card low, is_here, z)

    -- it follows suit
    pub in_suit : (p.played % 4 ≡ 0 → ⊥) → card / 13 ≡ p.led → true ≡ may_in p card
    unfolding may_in
    in_suit f e = rw (lt-leb 52 card low, is_here, ne_eqb (p.played % 4) 0 f, eq-eqb (card / 13) p.led e)

    -- it does not, and the seat holds a card of the suit led or not
    pub off_suit : (p.played % 4 ≡ 0 → ⊥) → (card / 13 ≡ p.led → ⊥) → {hand : ℕ} → hand ≡ hand_of p → {b : Bool} → b ≡ has_suit hand (p.led % 4)
        → not b ≡ may_in p card
    unfolding may_in could_follow
    off_suit f o h e = rw (lt-leb 52 card low, is_here, ne_eqb (p.played % 4) 0 f, ne_eqb (card / 13) p.led o, e, h)
