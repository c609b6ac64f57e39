-- Law 44's winning card and winner of a trick, one card at a time: the card that wins so far, and one more card.
-- A trick is written latest card first. Assumes nothing.
use Rattle.std.specs.Prelude.{if◌then◌else◌}
use Prim.Native.Nat.{ℕ, max}
use mathlib.Core.Path.{◌≡◌, refl, sym, ap, ◌∙◌, subst}
use mathlib.Core.Bool.{Bool, true, false}
use mathlib.Core.Logic.{◌⊎◌, inl, inr}
use mathlib.Core.List.{List, [], ◌∷◌}
use native.Mathlib.Nat.{max-eq_left, max-eq_right, max-zero, le_of_lt}
use borrow.Author.Tests.{leb-true, leb-false, eqb-true, eqb-false, eq-eqb, ne_eqb, ltb-true, ltb-false}
use lib.Dec.{eqb, ltb, leb}
use Rattle.laws.specs.Choice.{some}
use Rattle.laws.specs.Cards.{suit_of, clockwise}
use Rattle.laws.specs.Law44.{cards_played, suit_led, is_of, highest, winning_card, player_of, winner, is_played}
use Rattle.laws.proofs.Tests.{by_test, not_both, or_left, or_right}

-- a card beats the best one so far: it is higher in the same suit, or a trump on another suit
unfoldable pub beats_of : ℕ → ℕ → ℕ → Bool
beats_of trump best card = if eqb (suit_of card) (suit_of best) then ltb best card else eqb (suit_of card) trump

-- ---- the highest card of a suit
pub highest-none : (s : ℕ) (t : List ℕ) → some (is_of s) t ≡ false → highest s t ≡ 0
unfolding some highest
highest-none s [] e = refl
highest-none s (c ∷ t) e = rw (or_left (is_of s c) (some (is_of s) t) e) (highest-none s t (or_right (is_of s c) (some (is_of s) t) e))

-- a card of the suit that stands in the trick
pub record Among (s : ℕ) (t : List ℕ) (x : ℕ) : Type 0 where
  pub suit : suit_of x ≡ s
  pub played : is_played t x ≡ true

front : (c : ℕ) (t : List ℕ) → is_played (c ∷ t) c ≡ true
unfolding is_played some
front c t = rw (eq-eqb c c refl)

behind : (c x : ℕ) (t : List ℕ) → is_played t x ≡ true → is_played (c ∷ t) x ≡ true
unfolding is_played some
behind c x t e = by_test (eqb c x) (λ (q : eqb c x ≡ true). rw q) (λ (q : eqb c x ≡ false). rw q e)

higher : (s c x : ℕ) (t : List ℕ) → suit_of c ≡ s → Among s t x → Among s (c ∷ t) (max c x)
higher s c x t h a =
    by_test (leb x c)
    (λ (q : leb x c ≡ true). rw (max-eq_left (leb-true x c q)) (record { suit = h; played = front c t }))
    (λ (q : leb x c ≡ false). rw (max-eq_right (le_of_lt (leb-false x c q))) (record { suit = a.suit; played = behind c x t a.played }))

pub highest_among : (s : ℕ) (t : List ℕ) → some (is_of s) t ≡ true → Among s t (highest s t)
unfolding some highest
highest_among s [] e = not_both false e refl
highest_among s (c ∷ t) e =
    by_test (is_of s c)
    (λ (q : is_of s c ≡ true).
    rw q (by_test (some (is_of s) t)
    (λ (r : some (is_of s) t ≡ true). higher s c (highest s t) t (eqb-true (suit_of c) s q) (highest_among s t r))
    (λ (r : some (is_of s) t ≡ false). rw (highest-none s t r, max-zero c) (record { suit = eqb-true (suit_of c) s q; played = front c t }))))
    (λ (q : is_of s c ≡ false).
    rw q (let a = highest_among s t (rw q at e) in record { suit = a.suit; played = behind c (highest s t) t a.played }))

-- ---- a trick that has a card
-- the suit led is a card's
led_some : (c : ℕ) (t : List ℕ) → some (is_of (suit_led (c ∷ t))) (c ∷ t) ≡ true
unfolding some suit_led
led_some c [] = rw (eq-eqb (suit_of c) (suit_of c) refl)
led_some c (d ∷ t) =
    by_test (is_of (suit_led (d ∷ t)) c)
    (λ (q : is_of (suit_led (d ∷ t)) c ≡ true). rw q)
    (λ (q : is_of (suit_led (d ∷ t)) c ≡ false). rw q (led_some d t))

max_if : (c w : ℕ) → max c w ≡ (if ltb w c then c else w)
max_if c w =
    by_test (ltb w c)
    (λ (q : ltb w c ≡ true). rw (q, max-eq_left (le_of_lt (ltb-true w c q))))
    (λ (q : ltb w c ≡ false). rw (q, max-eq_right (ltb-false w c q)))

-- a card of the suit of the one that wins so far
same_suit : (trump c w s : ℕ) → suit_of c ≡ s → suit_of w ≡ s → max c w ≡ (if beats_of trump w c then c else w)
unfolding beats_of
same_suit trump c w s h k = rw (eq-eqb (suit_of c) (suit_of w) (h ∙ sym k)) (max_if c w)

-- a card of another suit
other-suit : (trump c w : ℕ) → (suit_of c ≡ suit_of w → ⊥) → beats_of trump w c ≡ eqb (suit_of c) trump
unfolding beats_of
other-suit trump c w ne = rw (ne_eqb (suit_of c) (suit_of w) ne)

module _ (trump d : ℕ) (t : List ℕ) where
  -- with a trump the winning card is the highest trump; without one it is the highest of the suit led, which is no trump
  ruffed : some (is_of trump) (d ∷ t) ≡ true → winning_card trump (d ∷ t) ≡ highest trump (d ∷ t)
  unfolding winning_card
  ruffed e = rw e

  plain : some (is_of trump) (d ∷ t) ≡ false → winning_card trump (d ∷ t) ≡ highest (suit_led (d ∷ t)) (d ∷ t)
  unfolding winning_card
  plain e = rw e

  led_no_trump : some (is_of trump) (d ∷ t) ≡ false → suit_led (d ∷ t) ≡ trump → ⊥
  led_no_trump e q = not_both (some (is_of trump) (d ∷ t)) (subst (λ (s : ℕ). some (is_of s) (d ∷ t) ≡ true) q (led_some d t)) e

  pub winning_played : is_played (d ∷ t) (winning_card trump (d ∷ t)) ≡ true
  winning_played =
      by_test (some (is_of trump) (d ∷ t))
      (λ (q : some (is_of trump) (d ∷ t) ≡ true). rw (ruffed q) (highest_among trump (d ∷ t) q).played)
      (λ (q : some (is_of trump) (d ∷ t) ≡ false). rw (plain q) (highest_among (suit_led (d ∷ t)) (d ∷ t) (led_some d t)).played)

  -- the winning card is a trump, or of the suit led
  pub winning_suit : (suit_of (winning_card trump (d ∷ t)) ≡ trump) ⊎ (suit_of (winning_card trump (d ∷ t)) ≡ suit_led (d ∷ t))
  winning_suit =
      by_test (some (is_of trump) (d ∷ t))
      (λ (q : some (is_of trump) (d ∷ t) ≡ true). inl (rw (ruffed q) (highest_among trump (d ∷ t) q).suit))
      (λ (q : some (is_of trump) (d ∷ t) ≡ false). inr (rw (plain q) (highest_among (suit_led (d ∷ t)) (d ∷ t) (led_some d t)).suit))

  module _ (c : ℕ) where
    abbrev now : Bool → ℕ
    now b = if b then c else winning_card trump (d ∷ t)

    with_ruff : some (is_of trump) (d ∷ t) ≡ true → winning_card trump (c ∷ d ∷ t) ≡ now (beats_of trump (winning_card trump (d ∷ t)) c)
    unfolding winning_card some highest
    with_ruff e =
        let w = (highest_among trump (d ∷ t) e).suit in
        rw e (by_test (is_of trump c)
        (λ (q : is_of trump c ≡ true). rw q (same_suit trump c (highest trump (d ∷ t)) trump (eqb-true (suit_of c) trump q) w))
        (λ (q : is_of trump c ≡ false).
        rw (q, other-suit trump c (highest trump (d ∷ t)) (λ h. eqb-false (suit_of c) trump q (h ∙ w)), q)))

    with_plain : some (is_of trump) (d ∷ t) ≡ false → winning_card trump (c ∷ d ∷ t) ≡ now (beats_of trump (winning_card trump (d ∷ t)) c)
    unfolding winning_card some highest suit_led
    with_plain e =
        let w = (highest_among (suit_led (d ∷ t)) (d ∷ t) (led_some d t)).suit in
        rw e (by_test (is_of trump c)
        (λ (q : is_of trump c ≡ true).
        rw (
          q,
          highest-none trump (d ∷ t) e,
          max-zero c,
          other-suit trump c (highest (suit_led (d ∷ t)) (d ∷ t))
              (λ h. led_no_trump e (sym w ∙ sym h ∙ eqb-true (suit_of c) trump q)),
          q,
        ))
        (λ (q : is_of trump c ≡ false). rw q (by_test (is_of (suit_led (d ∷ t)) c)
        (λ (r : is_of (suit_led (d ∷ t)) c ≡ true). rw r
        (same_suit trump c (highest (suit_led (d ∷ t)) (d ∷ t)) (suit_led (d ∷ t)) (eqb-true (suit_of c) (suit_led (d ∷ t)) r) w))
        (λ (r : is_of (suit_led (d ∷ t)) c ≡ false).
        rw (r, other-suit trump c (highest (suit_led (d ∷ t)) (d ∷ t)) (λ h. eqb-false (suit_of c) (suit_led (d ∷ t)) r (h ∙ w)), q)))))

    -- one card more: it wins so far, or the card that won so far does
    pub winning_more : winning_card trump (c ∷ d ∷ t) ≡ (if beats_of trump (winning_card trump (d ∷ t)) c then c else winning_card trump (d ∷ t))
    winning_more = by_test (some (is_of trump) (d ∷ t)) with_ruff with_plain

    -- and its player: the seat at turn, or who played the card that won so far
    pub winner-more : (leader : ℕ) → is_played (d ∷ t) c ≡ false
        → winner trump leader (c ∷ d ∷ t)
        ≡ (if beats_of trump (winning_card trump (d ∷ t)) c then clockwise leader (cards_played (d ∷ t)) else winner trump leader (d ∷ t))
    unfolding winner player_of
    winner-more leader absent =
        by_test (beats_of trump (winning_card trump (d ∷ t)) c)
        (λ (q : beats_of trump (winning_card trump (d ∷ t)) c ≡ true).
        let e : winning_card trump (c ∷ d ∷ t) ≡ c = winning_more ∙ rw q in
        ap (λ (w : ℕ). player_of leader w (c ∷ d ∷ t)) e ∙ rw (q, eq-eqb c c refl))
        (λ (q : beats_of trump (winning_card trump (d ∷ t)) c ≡ false).
        let e : winning_card trump (c ∷ d ∷ t) ≡ winning_card trump (d ∷ t) = winning_more ∙ rw q in
        ap (λ (w : ℕ). player_of leader w (c ∷ d ∷ t)) e
        ∙ rw (q, ne_eqb c (winning_card trump (d ∷ t)) (λ h. not_both (is_played (d ∷ t) c) (rw h winning_played) absent)))

-- the first card wins so far, and its player
pub winning_first : (trump c : ℕ) → winning_card trump (c ∷ []) ≡ c
unfolding winning_card some highest suit_led
winning_first trump c =
    by_test (is_of trump c)
    (λ (q : is_of trump c ≡ true). rw (q, max-zero c))
    (λ (q : is_of trump c ≡ false). rw (q, eq-eqb (suit_of c) (suit_of c) refl, max-zero c))

pub winner-first : (trump leader c : ℕ) → winner trump leader (c ∷ []) ≡ clockwise leader (cards_played [])
unfolding winner player_of
winner-first trump leader c = rw (winning_first trump c, eq-eqb c c refl)
