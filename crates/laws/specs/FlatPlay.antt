-- The events of the play as a flat list of numbers in order of play, as a writer is given them: a card is its number; an exposure is 52, the card and 0 or 1; a
-- choice is 53, its kind and its suit.
-- Assumes nothing.
use Rattle.std.specs.Prelude.{ℕ, Bool, true, false, not, List, [], ◌∷◌, eqb, ltb, if◌then◌else◌}
use Rattle.laws.specs.Choice.{some, how_many}
use Rattle.laws.specs.Refusals.{too_many_codes, choice_not_open}
use Rattle.laws.specs.Events.{Event, played, exposed, choice, exposure_code, choice_code, begins_code}
use Rattle.laws.specs.CodeRefusal.{codes_full, event_refusal}

-- what stands in the list: an event, or a code that is none, since it is cut short or its bit is over 1
pub data Item : Type 0 where
  event : Event → Item
  broken : Item

-- a code with the two numbers that follow it
unfoldable pub code_item : ℕ → ℕ → ℕ → Item
code_item x y z = if eqb x exposure_code then (if ltb 1 z then broken else event (exposed y (eqb z 1))) else event (choice y z)

-- a number with fewer than two behind it: a card, or a code that is cut short
unfoldable pub last_item : ℕ → Item
last_item x = if begins_code x then broken else event (played x)

-- the items of a flat list, in order of play; what is cut short is the last of them
unfoldable pub items_of : List ℕ → List Item
items_of [] = []
items_of (x ∷ []) = last_item x ∷ []
items_of (x ∷ y ∷ []) = if begins_code x then (broken ∷ []) else (event (played x) ∷ items_of (y ∷ []))
items_of (x ∷ y ∷ z ∷ l) = if begins_code x then (code_item x y z ∷ items_of l) else (event (played x) ∷ items_of (y ∷ z ∷ l))

-- an item stands in a card's place
unfoldable pub is_card : Item → Bool
is_card (event (played c)) = true
is_card (event (exposed c deliberate)) = false
is_card (event (choice kind suit)) = false
is_card broken = false

-- how many cards a flat list has: codes and their numbers do not count
unfoldable pub cards_in : List ℕ → ℕ
cards_in l = how_many is_card (items_of l)

-- an item is a broken code
unfoldable pub is_broken : Item → Bool
is_broken (event v) = false
is_broken broken = true

-- the events among the items
unfoldable pub events_among : List Item → List Event
events_among [] = []
events_among (event v ∷ items) = v ∷ events_among items
events_among (broken ∷ items) = events_among items

-- a code is misplaced: it is broken, or no card comes after it
unfoldable pub is_misplaced : Item → List Item → Bool
is_misplaced (event (played c)) rest = false
is_misplaced (event (exposed c deliberate)) rest = not (some is_card rest)
is_misplaced (event (choice kind suit)) rest = not (some is_card rest)
is_misplaced broken rest = true

-- why an item is refused after the events before it, where the items of `rest` come after it: a 41st code first, then one that is misplaced, then as in a
-- record
unfoldable pub item_refusal : ℕ → ℕ → List ℕ → List Event → Item → List Item → ℕ
item_refusal trump opening deal e (event v) rest =
    if is_misplaced (event v) rest then (if codes_full e then too_many_codes else choice_not_open) else event_refusal trump opening deal e v
item_refusal trump opening deal e broken rest = if codes_full e then too_many_codes else choice_not_open

-- the events after an item
unfoldable pub after_item : Item → List Event → List Event
after_item (event v) e = v ∷ e
after_item broken e = e

-- the flat list of events in order of play
unfoldable pub flat_of : List Event → List ℕ
flat_of [] = []
flat_of (played c ∷ vs) = c ∷ flat_of vs
flat_of (exposed c deliberate ∷ vs) = exposure_code ∷ c ∷ (if deliberate then 1 else 0) ∷ flat_of vs
flat_of (choice kind suit ∷ vs) = choice_code ∷ kind ∷ suit ∷ flat_of vs
