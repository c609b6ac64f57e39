-- The play as events: the cards, and among them a defender's card that is exposed and declarer's choice before a lead. A history has the latest event first:
-- in `v ∷ e`, v came after the events of e. What Laws 44 and 61 say of the play is asked of the cards of a history, `cards_of e`.
-- Assumes nothing.
use Rattle.std.specs.Prelude.{ℕ, suc, Bool, ◌||◌, List, [], ◌∷◌, ◌++◌, eqb, length, if◌then◌else◌}

-- declarer's choice before a lead: a suit is required, or a suit is forbidden
abbrev pub require : ℕ
require = 0

abbrev pub forbid : ℕ
forbid = 1

-- an event of the play: a card is played; a card is exposed, deliberately or not; a choice is made, of a kind and a suit
pub data Event : Type 0 where
  played : ℕ → Event
  exposed : ℕ → Bool → Event
  choice : ℕ → ℕ → Event

-- what stands in a card's place before an exposed card, and before a choice
abbrev pub exposure_code : ℕ
exposure_code = 52

abbrev pub choice_code : ℕ
choice_code = 53

-- the number begins a code
abbrev pub begins_code : ℕ → Bool
begins_code n = eqb n exposure_code || eqb n choice_code

-- the cards played, latest first
unfoldable pub cards_of : List Event → List ℕ
cards_of [] = []
cards_of (played c ∷ e) = c ∷ cards_of e
cards_of (exposed c deliberate ∷ e) = cards_of e
cards_of (choice kind suit ∷ e) = cards_of e

-- how many cards there are among the events
unfoldable pub cards_among : List Event → ℕ
cards_among e = length (cards_of e)

-- how many codes were given: exposures and choices together
unfoldable pub codes_of : List Event → ℕ
codes_of [] = 0
codes_of (played c ∷ e) = codes_of e
codes_of (exposed c deliberate ∷ e) = suc (codes_of e)
codes_of (choice kind suit ∷ e) = suc (codes_of e)

-- in order of play, an entry for each card that passes a test after the events before it
unfoldable pub list_plays : {A : Type 0} → (List Event → ℕ → Bool) → (List Event → ℕ → A) → List Event → List A
list_plays test entry [] = []
list_plays test entry (played c ∷ e) = list_plays test entry e ++ (if test e c then (entry e c ∷ []) else [])
list_plays test entry (exposed c deliberate ∷ e) = list_plays test entry e
list_plays test entry (choice kind suit ∷ e) = list_plays test entry e

-- the history of a play without codes: its cards alone
unfoldable pub as_events : List ℕ → List Event
as_events [] = []
as_events (c ∷ g) = played c ∷ as_events g
