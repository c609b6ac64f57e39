-- Law 61: a revoke is the play of a card of another suit by a seat that held, just before, a card of the suit led.
-- Histories and tricks have the latest card first, as in Law 44.
-- Assumes nothing.
use Rattle.std.specs.Prelude.{ℕ, ◌+◌, ◌<◌, ◌≡◌, Bool, true, not, ◌&&◌, List, [], ◌∷◌, ◌++◌, eqb, if◌then◌else◌}
use Rattle.laws.specs.Choice.{some_below}
use Rattle.laws.specs.Cards.{suit_of}
use Rattle.laws.specs.Law44.{tricks_complete, cards_in_trick, trick_under_way, suit_led, is_of, to_play, holds}

-- the seat holds a card of the suit after the plays g
unfoldable pub holds_suit : List ℕ → List ℕ → ℕ → ℕ → Bool
holds_suit deal g seat suit = some_below 52 (λ card. is_of suit card && holds deal g seat card)

-- the play of the card, after the plays g, is a revoke
unfoldable pub is_revoke : ℕ → ℕ → List ℕ → List ℕ → ℕ → Bool
is_revoke trump opening deal g card =
    not (eqb (cards_in_trick g) 0)
    && (not (is_of (suit_led (trick_under_way g)) card) && holds_suit deal g (to_play trump opening g) (suit_led (trick_under_way g)))

-- the same in full: the card is not the first of its trick, the seat at turn held a card of the suit led, and the card is of another suit
pub record RevokedAt (trump opening : ℕ) (deal g : List ℕ) (card : ℕ) : Type 0 where
  pub follows : cards_in_trick g ≡ 0 → ⊥
  pub other : suit_of card ≡ suit_led (trick_under_way g) → ⊥
  pub could : ℕ
  pub could_card : could < 52
  pub could_suit : suit_of could ≡ suit_led (trick_under_way g)
  pub could_held : holds deal g (to_play trump opening g) could ≡ true

-- a revoke as it is listed: its trick, 1 to 13, the seat that revoked, and the suit led
pub record Revoke : Type 0 where
  pub trick : ℕ
  pub seat : ℕ
  pub suit : ℕ

-- the revoke at the next card after the plays g
unfoldable pub revoke_at : ℕ → ℕ → List ℕ → Revoke
revoke_at trump opening g = record { trick = tricks_complete g + 1; seat = to_play trump opening g; suit = suit_led (trick_under_way g) }

-- the revokes, in order of play
unfoldable pub revokes : ℕ → ℕ → List ℕ → List ℕ → List Revoke
revokes trump opening deal [] = []
revokes trump opening deal (c ∷ g) =
    revokes trump opening deal g
    ++ (if is_revoke trump opening deal g c
    then (revoke_at trump opening g ∷ [])
    else [])
