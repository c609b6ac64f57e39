-- The winner of a trick of four cards, card by card. Assumes nothing.
use Rattle.std.specs.Prelude.{if◌then◌else◌}
use Prim.Native.Nat.{ℕ, ◌+◌, ◌/◌, ◌%◌, ◌<◌, max}
use native.Mathlib.Omega.{arith}
use mathlib.Core.Path.{◌≡◌, sym, ap, ◌∙◌}
use mathlib.Core.Bool.{true, false}
use mathlib.Core.List.{List, [], ◌∷◌}
use borrow.Author.Tests.{eq-eqb, ne_eqb}
use lib.Dec.{eqb}
use Rattle.laws.specs.Choice.{some}
use Rattle.laws.specs.Cards.{clockwise}
use Rattle.laws.specs.Law44.{cards_played, suit_led, is_of, highest, winning_card, player_of, winner}
use Rattle.laws.proofs.Tests.{by_test}

-- the higher of a card and the best so far, where it is of the suit
abbrev better : ℕ → ℕ → ℕ → ℕ
better suit card best = if is_of suit card then max card best else best

module _ (a b c d : ℕ) where
  abbrev trick : List ℕ
  trick = d ∷ c ∷ b ∷ a ∷ []

  pub highest-is : (suit w x y z : ℕ) → w ≡ better suit a 0 → x ≡ better suit b w → y ≡ better suit c x → z ≡ better suit d y → z ≡ highest suit trick
  unfolding highest
  highest-is suit w x y z p q r s = s ∙ ap (better suit d) (r ∙ ap (better suit c) (q ∙ ap (better suit b) p))

  -- ---- the card that wins
  module _ (trump card : ℕ) where
    pub trump_d : d / 13 ≡ trump → card ≡ highest trump trick → card ≡ winning_card trump trick
    unfolding winning_card some
    trump_d h e = rw (eq-eqb (d / 13) trump h) e

    pub trump_c : (d / 13 ≡ trump → ⊥) → c / 13 ≡ trump → card ≡ highest trump trick → card ≡ winning_card trump trick
    unfolding winning_card some
    trump_c g h e = rw (ne_eqb (d / 13) trump g, eq-eqb (c / 13) trump h) e

    pub trump_b : (d / 13 ≡ trump → ⊥) → (c / 13 ≡ trump → ⊥) → b / 13 ≡ trump → card ≡ highest trump trick → card ≡ winning_card trump trick
    unfolding winning_card some
    trump_b f g h e = rw (ne_eqb (d / 13) trump f, ne_eqb (c / 13) trump g, eq-eqb (b / 13) trump h) e

    pub trump_a : (d / 13 ≡ trump → ⊥) → (c / 13 ≡ trump → ⊥) → (b / 13 ≡ trump → ⊥) → a / 13 ≡ trump → card ≡ highest trump trick
        → card ≡ winning_card trump trick
    unfolding winning_card some
    trump_a f g k h e = rw (ne_eqb (d / 13) trump f, ne_eqb (c / 13) trump g, ne_eqb (b / 13) trump k, eq-eqb (a / 13) trump h) e

    pub no_trump : (d / 13 ≡ trump → ⊥) → (c / 13 ≡ trump → ⊥) → (b / 13 ≡ trump → ⊥) → (a / 13 ≡ trump → ⊥) → card ≡ highest (a / 13) trick
        → card ≡ winning_card trump trick
    unfolding winning_card some suit_led
    no_trump f g k h e = rw (ne_eqb (d / 13) trump f, ne_eqb (c / 13) trump g, ne_eqb (b / 13) trump k, ne_eqb (a / 13) trump h) e

  -- ---- the seat that played it
  module _ (trump leader card : ℕ) (is : card ≡ winning_card trump trick) where
    player : winner trump leader trick ≡ player_of leader card trick
    unfolding winner
    player = ap (λ k. player_of leader k trick) (sym is)

    pub won_d : d ≡ card → (leader + 3) % 4 ≡ winner trump leader trick
    unfolding player_of clockwise cards_played
    won_d e = sym (player ∙ rw (eq-eqb d card e))

    pub won_c : (d ≡ card → ⊥) → c ≡ card → (leader + 2) % 4 ≡ winner trump leader trick
    unfolding player_of clockwise cards_played
    won_c f e = sym (player ∙ rw (ne_eqb d card f, eq-eqb c card e))

    pub won_b : (d ≡ card → ⊥) → (c ≡ card → ⊥) → b ≡ card → (leader + 1) % 4 ≡ winner trump leader trick
    unfolding player_of clockwise cards_played
    won_b f g e = sym (player ∙ rw (ne_eqb d card f, ne_eqb c card g, eq-eqb b card e))

    pub won_a : leader < 4 → (d ≡ card → ⊥) → (c ≡ card → ⊥) → (b ≡ card → ⊥) → leader ≡ winner trump leader trick
    unfolding player_of clockwise cards_played
    won_a low f g h =
        let first : (leader + 0) % 4 ≡ leader = omega arith in
        sym (player ∙ rw (ne_eqb d card f, ne_eqb c card g, ne_eqb b card h)
        (by_test (eqb a card) (λ (q : eqb a card ≡ true). rw q first) (λ (q : eqb a card ≡ false). rw q)))
