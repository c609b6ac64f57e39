-- The greatest worth of a trick's cards is that of Law 44's winning card and its player. A trick is written latest card first. Assumes nothing.
use Rattle.std.specs.Prelude.{if◌then◌else◌}
use Prim.Native.Nat.{ℕ, ◌≤◌, ◌<◌, max}
use mathlib.Core.Path.{◌≡◌, refl, sym, ◌∙◌}
use mathlib.Core.Logic.{◌⊎◌, ⊎_elim}
use mathlib.Core.Bool.{Bool, true, false}
use mathlib.Core.List.{List, [], ◌∷◌}
use native.Mathlib.Nat.{max-eq_left, max-eq_right, le_of_lt, zero-max}
use native.Mathlib.Omega.{arith}
use borrow.Author.Tests.{eqb-true, eqb-false, eq-eqb, ne_eqb, ltb-true, ltb-false}
use lib.Dec.{eqb}
use Rattle.laws.specs.Choice.{some}
use Rattle.laws.specs.Cards.{suit_of, clockwise}
use Rattle.laws.specs.Law44.{cards_played, suit_led, winning_card, player_of, winner, is_played}
use Rattle.laws.proofs.Tests.{by_test, not_both}
use Rattle.play.specs.Words.{bit_of, worth}
use Rattle.play.specs.History.{best_worth}
use Rattle.play.proofs.Winning.{beats_of, winning_played, winning_suit, winning_first, winning_more, winner-first, winner-more}

bit-low : (b : Bool) → bit_of b ≤ 1
bit-low true = omega arith
bit-low false = omega arith

-- ---- a card that wins so far, a trump or of the suit led, and one card more
module _ (trump led w c by seat : ℕ) (hw : w < 52) (hc : c < 52) (hb : by < 4) (hs : seat < 4) (other : w ≡ c → ⊥)
    (wins : (suit_of w ≡ trump) ⊎ (suit_of w ≡ led)) where
  -- of one suit, the higher card is worth more
  same_above : suit_of c ≡ suit_of w → w < c → worth trump led w by < worth trump led c seat
  unfolding worth
  same_above e h = rw e (omega arith)

  same-below : suit_of c ≡ suit_of w → c < w → worth trump led c seat < worth trump led w by
  unfolding worth
  same-below e h = rw e (omega arith)

  -- of another suit, a trump is worth more than what is no trump, and what is no trump less than the card that wins
  ruff_above : (suit_of c ≡ suit_of w → ⊥) → suit_of c ≡ trump → worth trump led w by < worth trump led c seat
  unfolding worth
  ruff_above ne e =
      let none : eqb (suit_of w) trump ≡ false = ne_eqb (suit_of w) trump (λ q. ne (e ∙ sym q)) in
      rw (none, eq-eqb (suit_of c) trump e) (omega (arith, bit-low (eqb (suit_of w) led)))

  discard_below : (suit_of c ≡ suit_of w → ⊥) → (suit_of c ≡ trump → ⊥) → worth trump led c seat < worth trump led w by
  unfolding worth
  discard_below ne nt =
      rw (ne_eqb (suit_of c) trump nt)
      (⊎_elim
      (λ (q : suit_of w ≡ trump). rw (eq-eqb (suit_of w) trump q) (omega (arith, bit-low (eqb (suit_of c) led))))
      (λ (q : suit_of w ≡ led). rw (eq-eqb (suit_of w) led q, ne_eqb (suit_of c) led (λ r. ne (r ∙ sym q))) (omega arith))
      wins)

  above : beats_of trump w c ≡ true → worth trump led w by < worth trump led c seat
  unfolding beats_of
  above e =
      by_test (eqb (suit_of c) (suit_of w))
      (λ (q : eqb (suit_of c) (suit_of w) ≡ true). same_above (eqb-true (suit_of c) (suit_of w) q) (ltb-true w c (rw q at e)))
      (λ (q : eqb (suit_of c) (suit_of w) ≡ false). ruff_above (eqb-false (suit_of c) (suit_of w) q) (eqb-true (suit_of c) trump (rw q at e)))

  below : beats_of trump w c ≡ false → worth trump led c seat < worth trump led w by
  unfolding beats_of
  below e =
      by_test (eqb (suit_of c) (suit_of w))
      (λ (q : eqb (suit_of c) (suit_of w) ≡ true).
      same-below (eqb-true (suit_of c) (suit_of w) q) (omega (arith, ltb-false w c (rw q at e), other)))
      (λ (q : eqb (suit_of c) (suit_of w) ≡ false). discard_below (eqb-false (suit_of c) (suit_of w) q) (eqb-false (suit_of c) trump (rw q at e)))

  pub greatest : max (worth trump led w by) (worth trump led c seat)
      ≡ worth trump led (if beats_of trump w c then c else w) (if beats_of trump w c then seat else by)
  greatest =
      by_test (beats_of trump w c)
      (λ (q : beats_of trump w c ≡ true). rw (q, max-eq_right (le_of_lt (above q))))
      (λ (q : beats_of trump w c ≡ false). rw (q, max-eq_left (le_of_lt (below q))))

-- ---- the player of a card of the trick is one of four seats
player_low : (leader card : ℕ) (t : List ℕ) → is_played t card ≡ true → player_of leader card t < 4
unfolding player_of is_played some clockwise
player_low leader card [] e = not_both false e refl
player_low leader card (c ∷ t) e =
    by_test (eqb c card)
    (λ (q : eqb c card ≡ true). rw q (omega arith))
    (λ (q : eqb c card ≡ false). rw q (player_low leader card t (rw q at e)))

pub winner-low : (trump leader d : ℕ) (t : List ℕ) → winner trump leader (d ∷ t) < 4
unfolding winner
winner-low trump leader d t = player_low leader (winning_card trump (d ∷ t)) (d ∷ t) (winning_played trump d t)

clockwise-low : (seat n : ℕ) → clockwise seat n < 4
unfolding clockwise
clockwise-low seat n = omega arith

-- ---- one card more in a trick whose cards are cards
pub best-more : (trump leader c : ℕ) (t : List ℕ) → c < 52 → ((x : ℕ) → is_played t x ≡ true → x < 52) → is_played t c ≡ false
    → max (best_worth trump leader t) (worth trump (suit_led (c ∷ t)) c (clockwise leader (cards_played t))) ≡ best_worth trump leader (c ∷ t)
unfolding best_worth suit_led
best-more trump leader c [] h all absent = rw (winning_first trump c, winner-first trump leader c) (zero-max _)
best-more trump leader c (d ∷ t) h all absent =
    let w = winning_card trump (d ∷ t) in
    let played = winning_played trump d t in
    greatest trump (suit_led (d ∷ t)) w c (winner trump leader (d ∷ t)) (clockwise leader (cards_played (d ∷ t))) (all w played) h
    (winner-low trump leader d t) (clockwise-low leader (cards_played (d ∷ t))) (λ e. not_both (is_played (d ∷ t) c) (rw (sym e) played) absent)
    (winning_suit trump d t)
    ∙ rw (winning_more trump d t c, winner-more trump d t c leader absent)
