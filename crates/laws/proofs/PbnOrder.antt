-- Columns of a Play section and the order of play: each gives back the other, on any cards. Assumes nothing.
use Prim.Native.Nat.{ℕ, zero, suc, ◌+◌, ◌<◌}
use native.Mathlib.Nat.{mod-lt}
use native.Mathlib.Omega.{arith}
use mathlib.Core.Path.{◌≡◌, refl, ap, ap₂, ◌∙◌}
use mathlib.Core.Bool.{true, false}
use mathlib.Core.List.{List, [], ◌∷◌, ◌++◌, reverse}
use lib.Dec.{eqb, lit<}
use Rattle.laws.specs.Cards.{clockwise}
use Rattle.laws.specs.Law44.{cards_played, player_of, winning_card, winner}
use Rattle.laws.proofs.Tests.{by_test}
use Rattle.laws.specs.PbnOrder.{relisted, order_from, columns_from, order_of_play, columns_of}

-- a fact of each seat
pub of-seat : (P : ℕ → Type 0) → P 0 → P 1 → P 2 → P 3 → (seat : ℕ) → seat < 4 → P seat
of-seat P p q r s zero h = p
of-seat P p q r s (suc zero) h = q
of-seat P p q r s (suc (suc zero)) h = r
of-seat P p q r s (suc (suc (suc zero))) h = s
of-seat P p q r s (suc (suc (suc (suc n)))) h = absurd (omega arith)

-- a trick listed from another seat, and from the first again
pub listed_again : (from to : ℕ) → from < 4 → to < 4 → (a b c d : ℕ)
    → relisted to from (relisted from to (a ∷ b ∷ c ∷ d ∷ [])) ≡ a ∷ b ∷ c ∷ d ∷ []
unfolding relisted clockwise
listed_again from to h k a b c d =
    of-seat (λ f. relisted to f (relisted f to (a ∷ b ∷ c ∷ d ∷ [])) ≡ a ∷ b ∷ c ∷ d ∷ [])
    (of-seat (λ t. relisted t 0 (relisted 0 t (a ∷ b ∷ c ∷ d ∷ [])) ≡ a ∷ b ∷ c ∷ d ∷ []) refl refl refl refl to k)
    (of-seat (λ t. relisted t 1 (relisted 1 t (a ∷ b ∷ c ∷ d ∷ [])) ≡ a ∷ b ∷ c ∷ d ∷ []) refl refl refl refl to k)
    (of-seat (λ t. relisted t 2 (relisted 2 t (a ∷ b ∷ c ∷ d ∷ [])) ≡ a ∷ b ∷ c ∷ d ∷ []) refl refl refl refl to k)
    (of-seat (λ t. relisted t 3 (relisted 3 t (a ∷ b ∷ c ∷ d ∷ [])) ≡ a ∷ b ∷ c ∷ d ∷ []) refl refl refl refl to k)
    from h

player_seat : (leader card : ℕ) (t : List ℕ) → leader < 4 → player_of leader card t < 4
unfolding player_of clockwise
player_seat leader card [] h = h
player_seat leader card (c ∷ t) h =
    by_test (eqb c card)
    (λ (q : eqb c card ≡ true). rw q (mod-lt (leader + cards_played t) (lit< tt)))
    (λ (q : eqb c card ≡ false). rw q (player_seat leader card t h))

-- the winner of a trick is a seat
pub winner-seat : (trump leader : ℕ) (t : List ℕ) → leader < 4 → winner trump leader t < 4
unfolding winner
winner-seat trump leader t h = player_seat leader (winning_card trump t) t h

module _ (trump first : ℕ) (seat : first < 4) where
  pub in_columns : (leader : ℕ) → leader < 4 → (cards : List ℕ)
      → columns_from trump first leader (order_from trump first leader cards) ≡ cards
  unfolding order_from columns_from relisted
  in_columns leader h [] = refl
  in_columns leader h (a ∷ []) = refl
  in_columns leader h (a ∷ b ∷ []) = refl
  in_columns leader h (a ∷ b ∷ c ∷ []) = refl
  in_columns leader h (a ∷ b ∷ c ∷ d ∷ cards) =
      let next = winner trump leader (reverse (relisted first leader (a ∷ b ∷ c ∷ d ∷ []))) in
      ap₂ ◌++◌ (listed_again first leader seat h a b c d) (in_columns next (winner-seat trump leader _ h) cards)

  pub in_order : (leader : ℕ) → leader < 4 → (cards : List ℕ)
      → order_from trump first leader (columns_from trump first leader cards) ≡ cards
  unfolding order_from columns_from relisted
  in_order leader h [] = refl
  in_order leader h (a ∷ []) = refl
  in_order leader h (a ∷ b ∷ []) = refl
  in_order leader h (a ∷ b ∷ c ∷ []) = refl
  in_order leader h (a ∷ b ∷ c ∷ d ∷ cards) =
      let again = listed_again leader first h seat a b c d in
      let next = winner trump leader (d ∷ c ∷ b ∷ a ∷ []) in
      ap₂ ◌++◌ again (ap (λ t. order_from trump first (winner trump leader (reverse t)) (columns_from trump first next cards)) again
      ∙ in_order next (winner-seat trump leader _ h) cards)

  -- columns to order of play and back, and the other way
  pub order : (cards : List ℕ)
      → (columns_of trump first (order_of_play trump first cards) ≡ cards) × (order_of_play trump first (columns_of trump first cards) ≡ cards)
  order cards = (in_columns first seat cards, in_order first seat cards)
