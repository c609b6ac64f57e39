-- The search on the position is the Laws' on the history, after every play in which no card was refused. Assumes nothing.
use Rattle.std.specs.Prelude.{if◌then◌else◌}
use Prim.Native.Nat.{ℕ, zero, suc, ◌+◌, ◌-◌, ◌%◌, ◌≤◌, max, min}
use native.Mathlib.Omega.{arith}
use native.Mathlib.Nat.{mod-eq_of_lt}
use mathlib.Core.Path.{◌≡◌, refl, ap₂, ◌∙◌}
use mathlib.Core.Bool.{Bool, true, false, not, ◌&&◌}
use mathlib.Core.List.{List, ◌∷◌}
use borrow.Author.Tests.{lt-leb, le-ltb, eqb-false}
use lib.Dec.{eqb, leb}
use lib.ListN.{length}
use Rattle.laws.specs.Cards.{suit_of, dealt_to}
use Rattle.laws.specs.Law44.{cards_played, cards_in_trick, trick_under_way, suit_led, leader, to_play, playable}
use Rattle.laws.specs.Law61.{holds_suit, is_revoke}
use Rattle.laws.specs.BestPlay.{greatest, smallest, may_play, our_turn, gain, most, least, best_play}
use Rattle.laws.proofs.Tests.{by_test, and_left}
use Rattle.laws.proofs.CardRefusals.{accepted-is, playable-dealt}
use Rattle.play.specs.declared.Play.{Play}
use Rattle.play.specs.Position.{turn_of, leads, could_follow}
use Rattle.play.specs.History.{position_of, AllPlayed}
use Rattle.play.proofs.Holders.{turn_seat, holds_law}
use Rattle.play.proofs.Stands.{Stands, stands, turn_is, lead_test, could-is, under_way_low}
use Rattle.play.proofs.Thirteen.{at_most_52}
use Rattle.best_play.specs.Search.{may_in, gain_in, ours_in, most_in, least_in, best_in}
use Rattle.best_play.proofs.Search.{worth_in}

-- numbers that pass the same tests with the same values
module _ {s t : ℕ → Bool} {v w : ℕ → ℕ} (tests : (k : ℕ) → s k ≡ t k) (values : (k : ℕ) → t k ≡ true → v k ≡ w k) where
  same-greatest : (n : ℕ) → greatest s v n ≡ greatest t w n
  unfolding greatest
  same-greatest zero = refl
  same-greatest (suc n) =
      by_test (t n)
      (λ (q : t n ≡ true). rw (tests n, q) (ap₂ max (same-greatest n) (values n q)))
      (λ (q : t n ≡ false). rw (tests n, q) (same-greatest n))

  same-smallest : (n : ℕ) → smallest s v n ≡ smallest t w n
  unfolding smallest
  same-smallest zero = refl
  same-smallest (suc n) =
      by_test (t n)
      (λ (q : t n ≡ true). rw (tests n, q) (ap₂ min (same-smallest n) (values n q)))
      (λ (q : t n ≡ false). rw (tests n, q) (same-smallest n))

-- the tricks of a position after so many cards, by whose turn it is
by_turn : (side : ℕ) (p : Play) {n : ℕ} → p.played ≡ n → n ≤ 52 → {b : Bool} → ours_in side p ≡ b
    → {x y : ℕ} → most_in side (52 - n) p ≡ x → least_in side (52 - n) p ≡ y → best_in side p ≡ (if b then x else y)
unfolding best_in
by_turn side p {n} e few o x y = simp (e, le-ltb 52 n few, o, x, y)

module _ (deal : List ℕ) (trump opening : ℕ) (all : length deal ≡ 52) where
  module _ (h : List ℕ) (w : AllPlayed deal trump opening h) where
    abbrev p : Play
    p = position_of deal trump opening h

    at_h : Stands deal trump opening all p h
    at_h = stands deal trump opening all h w

    -- the seat at turn holds the card
    held-is : (c : ℕ) → eqb (dealt_to p.holders c) (turn_of p) ≡ playable trump opening deal h c
    unfolding playable
    held-is c =
        ap₂ (λ (l : List ℕ) (seat : ℕ). eqb (dealt_to l c) seat) at_h.holders (turn_is deal trump opening all at_h)
        ∙ holds_law deal trump opening all h w (to_play trump opening h) c (turn_seat trump opening h)

    -- it leads, follows, or has no card of the suit led: it does not revoke
    free_is : (c : ℕ) → (if leads p then true else if eqb (suit_of c) p.led then true else not (could_follow p)) ≡ not (is_revoke trump opening deal h c)
    unfolding is_revoke
    free_is c =
        by_test (eqb (cards_in_trick h) 0)
        (λ (q : eqb (cards_in_trick h) 0 ≡ true). rw (lead_test deal trump opening all at_h, q))
        (λ (q : eqb (cards_in_trick h) 0 ≡ false).
        let led = at_h.led (eqb-false (cards_in_trick h) 0 q) in
        let low = mod-eq_of_lt (under_way_low deal trump opening all h w) in
        rw (lead_test deal trump opening all at_h, q, could-is deal trump opening all at_h w, led, low)
        (one (eqb (suit_of c) (suit_led (trick_under_way h))) (holds_suit deal h (to_play trump opening h) (suit_led (trick_under_way h)))))
      where
        one : (a b : Bool) → (if a then true else not b) ≡ not (not a && b)
        one true b = refl
        one false b = refl

    -- the same cards may be played
    may_is : (c : ℕ) → may_in p c ≡ may_play trump opening deal h c
    unfolding may_in may_play
    may_is c =
        by_test (playable trump opening deal h c)
        (λ (t : playable trump opening deal h c ≡ true).
        let low = lt-leb 52 c (omega (arith, playable-dealt trump opening deal h c t, all)) in
        rw (low, held-is c, t) (free_is c))
        (λ (t : playable trump opening deal h c ≡ false). rw t (by_test (leb 52 c)
        (λ (q : leb 52 c ≡ true). rw q)
        (λ (q : leb 52 c ≡ false). rw (q, held-is c, t))))

    -- a player of the side is at turn
    ours-is : (side : ℕ) → ours_in side p ≡ our_turn trump opening side h
    unfolding ours_in our_turn
    ours-is side = rw (turn_is deal trump opening all at_h)

  -- a card that may be played is not refused
  next-played : (h : List ℕ) (c : ℕ) → AllPlayed deal trump opening h → may_play trump opening deal h c ≡ true → AllPlayed deal trump opening (c ∷ h)
  unfolding AllPlayed may_play
  next-played h c w m = ((accepted-is trump opening deal h c all).1 (and_left (playable trump opening deal h c) _ m), w)

  -- what the card gains
  gain-is : (side c : ℕ) (h : List ℕ) → AllPlayed deal trump opening (c ∷ h) → gain_in side (position_of deal trump opening (c ∷ h)) ≡ gain trump opening side h c
  unfolding gain_in gain
  gain-is side c h w =
      let s = at_h (c ∷ h) w in
      let even : leader trump opening (c ∷ h) % 4 % 2 ≡ leader trump opening (c ∷ h) % 2 = omega arith in
      rw (lead_test deal trump opening all s, s.leads, even)

  module _ (side : ℕ) where
    -- the value, with so many cards left
    most-is : (left : ℕ) (h : List ℕ) → AllPlayed deal trump opening h
        → (most_in side left (position_of deal trump opening h) ≡ most trump opening deal side left h)
        × (least_in side left (position_of deal trump opening h) ≡ least trump opening deal side left h)
    unfolding most_in least_in most least position_of
    most-is zero h w = (refl, refl)
    most-is (suc left) h w =
        let tests = may_is h w in
        let values : (c : ℕ) → may_play trump opening deal h c ≡ true → worth_in side left (position_of deal trump opening h) c
        ≡ gain trump opening side h c + (if our_turn trump opening side (c ∷ h)
        then most trump opening deal side left (c ∷ h)
        else least trump opening deal side left (c ∷ h)) =
        λ c m. let v = next-played h c w m in
        let both = most-is left (c ∷ h) v in
        rw (ours-is (c ∷ h) v side, both.0, both.1, gain-is side c h v) in
        (same-greatest tests values 52, same-smallest tests values 52)

    -- the theorem
    pub best-is : (h : List ℕ) → AllPlayed deal trump opening h → best_in side (position_of deal trump opening h) ≡ best_play trump opening deal side h
    unfolding best_play
    best-is h w =
        let both = most-is (52 - cards_played h) h w in
        by_turn side _ (at_h h w).played (at_most_52 deal trump opening all h w) (ours-is h w side) both.0 both.1
