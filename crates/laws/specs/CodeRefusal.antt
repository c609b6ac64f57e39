-- Why an event of the play is refused after those before it. A code is 27 where forty codes went before it; then an exposure is 25 where the card cannot be
-- exposed, and a choice 26 where it is not open. A card is refused as the cards before it say.
-- Assumes nothing.
use Rattle.std.specs.Prelude.{ℕ, Bool, List, leb, if◌then◌else◌}
use Rattle.laws.specs.Refusals.{accepted, not_exposable, choice_not_open, too_many_codes}
use Rattle.laws.specs.CardRefusal.{card_refusal}
use Rattle.laws.specs.Events.{Event, played, exposed, choice, cards_of, codes_of}
use Rattle.laws.specs.Law50.{is_exposable}
use Rattle.laws.specs.Law51.{is_open}

-- a record has at most so many codes
abbrev pub most_codes : ℕ
most_codes = 40

-- there is no room for a code: so many went before
unfoldable pub codes_full : List Event → Bool
codes_full e = leb most_codes (codes_of e)

-- the number of the refusal of an exposure, and of a choice, where there is room for the code
unfoldable pub exposure_refusal : ℕ → ℕ → List ℕ → List Event → ℕ → ℕ
exposure_refusal trump opening deal e k = if is_exposable trump opening deal e k then accepted else not_exposable

unfoldable pub choice_refusal : ℕ → ℕ → List ℕ → List Event → ℕ → ℕ → ℕ
choice_refusal trump opening deal e kind suit = if is_open trump opening deal e kind suit then accepted else choice_not_open

-- the number of the refusal of an event, 0 where it may stand
unfoldable pub event_refusal : ℕ → ℕ → List ℕ → List Event → Event → ℕ
event_refusal trump opening deal e (played c) = card_refusal trump opening deal (cards_of e) c
event_refusal trump opening deal e (exposed k deliberate) = if codes_full e then too_many_codes else exposure_refusal trump opening deal e k
event_refusal trump opening deal e (choice kind suit) = if codes_full e then too_many_codes else choice_refusal trump opening deal e kind suit
