-- The test of a revoke holds exactly when a seat held a card of the suit led and played another suit. Assumes nothing.
use Prim.Native.Nat.{ℕ}
use mathlib.Core.Path.{◌≡◌}
use mathlib.Core.Logic.{◌↔◌}
use mathlib.Core.Bool.{Bool, true, not, ◌&&◌}
use mathlib.Core.List.{List}
use borrow.Author.Tests.{eqb-true, eqb-false, eq-eqb, ne_eqb, not-true}
use lib.Dec.{eqb}
use Rattle.laws.specs.Choice.{some_below}
use Rattle.laws.specs.Cards.{suit_of}
use Rattle.laws.specs.Law44.{cards_in_trick, trick_under_way, suit_led, is_of, to_play, holds}
use Rattle.laws.specs.Law61.{holds_suit, is_revoke, RevokedAt}
use Rattle.laws.proofs.Tests.{and_left, and_right, and_both}
use Rattle.laws.proofs.Counts.{below-some, some_below_lem}

module _ (trump opening : ℕ) (deal : List ℕ) where
  abbrev holding : List ℕ → ℕ → Bool
  holding g card = is_of (suit_led (trick_under_way g)) card && holds deal g (to_play trump opening g) card

  revoked : (g : List ℕ) (c : ℕ) → is_revoke trump opening deal g c ≡ true → RevokedAt trump opening deal g c
  unfolding is_revoke holds_suit
  revoked g c e =
      let suit = suit_led (trick_under_way g) in
      let first = not (eqb (cards_in_trick g) 0) in
      let off = not (is_of suit c) in
      let rest = and_right first (off && some_below 52 (holding g)) e in
      let d = below-some (holding g) 52 (and_right off (some_below 52 (holding g)) rest) in
      record {
        follows = eqb-false (cards_in_trick g) 0 (not-true (eqb (cards_in_trick g) 0) (and_left first (off && some_below 52 (holding g)) e));
        other = eqb-false (suit_of c) suit (not-true (is_of suit c) (and_left off (some_below 52 (holding g)) rest));
        could = d.0;
        could_card = d.1;
        could_suit = eqb-true (suit_of d.0) suit (and_left (is_of suit d.0) (holds deal g (to_play trump opening g) d.0) d.2);
        could_held = and_right (is_of suit d.0) (holds deal g (to_play trump opening g) d.0) d.2;
      }

  is_revoked : (g : List ℕ) (c : ℕ) → RevokedAt trump opening deal g c → is_revoke trump opening deal g c ≡ true
  unfolding is_revoke holds_suit
  is_revoked g c r =
      let suit = suit_led (trick_under_way g) in
      let d = r.could in
      let of-suit = eq-eqb (suit_of d) suit r.could_suit in
      rw (
        ne_eqb (cards_in_trick g) 0 r.follows,
        ne_eqb (suit_of c) suit r.other,
        some_below_lem (holding g) 52 d r.could_card (and_both (is_of suit d) (holds deal g (to_play trump opening g) d) of-suit r.could_held),
      )

  -- the test of a revoke is what demand 2 says of it
  pub revoke-exactly : (g : List ℕ) (c : ℕ) → (is_revoke trump opening deal g c ≡ true) ↔ RevokedAt trump opening deal g c
  revoke-exactly g c = (revoked g c, is_revoked g c)
