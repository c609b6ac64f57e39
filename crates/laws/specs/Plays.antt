-- The plays of a record: how they are read, each event checked on those before it, and which plays may stand. Before each card may stand codes: an exposed
-- card, and declarer's choice before a lead.
-- Histories have the latest event first; the plays of a record stand in their order.
-- Assumes nothing.
use Rattle.std.specs.Prelude.{ℕ, zero, suc, ◌≤◌, ◌≡◌, true, not, List, [], ◌∷◌, eqb, if◌then◌else◌}
use Rattle.laws.specs.Refusals.{accepted, too_many_codes}
use Rattle.laws.specs.Law44.{cards_played, playable}
use Rattle.laws.specs.CardRefusal.{card_refusal}
use Rattle.laws.specs.Reading.{Reader, ◌>>=◌, ◌>>◌, give, read, refuse}
use Rattle.laws.specs.Events.{Event, played, exposed, choice, exposure_code, begins_code, cards_of, cards_among}
use Rattle.laws.specs.Law50.{is_exposable}
use Rattle.laws.specs.Law51.{is_open}
use Rattle.laws.specs.CodeRefusal.{exposure_refusal, choice_refusal}

-- the place of whatever stands before the next card: how many cards were played before it
abbrev pub play_place : List Event → ℕ
play_place e = cards_played (cards_of e)

-- a refusal by its number, where it is one
abbrev pub refuse_by : ℕ → List Event → Reader (Unit {0})
refuse_by n e = refuse n (play_place e) (not (eqb n accepted))

module _ (trump opening : ℕ) (deal : List ℕ) where
  -- an exposed card and its bit, after their code
  unfoldable pub read_exposed : List Event → Reader (List Event)
  read_exposed e = do
    card ← read 6
    deliberate ← read 1
    refuse_by (exposure_refusal trump opening deal e card) e
    give (exposed card (eqb deliberate 1) ∷ e)

  -- the kind and the suit of a choice, after their code
  unfoldable pub read_choice : List Event → Reader (List Event)
  read_choice e = do
    kind ← read 2
    suit ← read 2
    refuse_by (choice_refusal trump opening deal e kind suit) e
    give (choice kind suit ∷ e)

  -- what follows a code that stands in a card's place
  abbrev pub read_code : ℕ → List Event → Reader (List Event)
  read_code code e = if eqb code exposure_code then read_exposed e else read_choice e

  -- so many cards with the codes before them, of which so many more may be given
  unfoldable pub read_plays : ℕ → ℕ → List Event → Reader (List Event)
  read_plays zero left e = give e
  read_plays (suc n) zero e = do
    code ← read 6
    refuse too_many_codes (play_place e) (begins_code code)
    refuse_by (card_refusal trump opening deal (cards_of e) code) e
    read_plays n zero (played code ∷ e)
  read_plays (suc n) (suc left) e = do
    code ← read 6
    if begins_code code then (read_code code e >>= read_plays (suc n) left)
        else (refuse_by (card_refusal trump opening deal (cards_of e) code) e >> read_plays n (suc left) (played code ∷ e))

-- ---- lawful plays
module _ (trump opening : ℕ) (deal : List ℕ) where
  -- the event may stand after the events e: the card may be played, the card can be exposed, the choice is open
  unfoldable pub MayStand : List Event → Event → Type 0
  MayStand e (played c) = playable trump opening deal (cards_of e) c ≡ true
  MayStand e (exposed c deliberate) = is_exposable trump opening deal e c ≡ true
  MayStand e (choice kind suit) = is_open trump opening deal e kind suit ≡ true

  -- each of the plays, in their order, may stand after the events e and the plays before it
  unfoldable pub EachStands : List Event → List Event → Type 0
  EachStands e [] = Unit {0}
  EachStands e (v ∷ plays) = MayStand e v × EachStands (v ∷ e) plays

-- codes stand before cards: each has a card after it
unfoldable pub CardsFollow : List Event → Type 0
CardsFollow [] = Unit {0}
CardsFollow (played c ∷ plays) = CardsFollow plays
CardsFollow (exposed c deliberate ∷ plays) = (1 ≤ cards_among plays) × CardsFollow plays
CardsFollow (choice kind suit ∷ plays) = (1 ≤ cards_among plays) × CardsFollow plays
