-- Why a card is refused after the cards before it: 11 for a code that is no card; then, for a card that the seat at turn does not hold, 23 where that seat
-- has played it already and 12 where it was dealt to another seat, played or not.
-- Assumes nothing.
use Rattle.std.specs.Prelude.{ℕ, List, leb, if◌then◌else◌}
use Rattle.laws.specs.Refusals.{accepted, no_card, card_not_held, card_already_played}
use Rattle.laws.specs.Law44.{cards_played, to_play, has_played, playable}

-- the number of the refusal, 0 where the card may be played
unfoldable pub card_refusal : ℕ → ℕ → List ℕ → List ℕ → ℕ → ℕ
card_refusal trump opening deal g card =
    if leb 52 card then no_card
    else if playable trump opening deal g card then accepted
    else if has_played deal g (to_play trump opening g) card then card_already_played
    else card_not_held

-- the place where a card is refused after the cards g: how many were played before it
abbrev pub card_place : List ℕ → ℕ → ℕ
card_place g card = cards_played g
