-- The position of the play with its penalty cards, on the structs that the code keeps, and one step of each kind.
-- Assumes nothing.
use Rattle.std.specs.Prelude.{ℕ, Some, None, ◌+◌, ◌*◌, ◌/◌, ◌%◌, Bool, not, ◌&&◌, List, eqb, leb, get_or, if◌then◌else◌}
use Rattle.laws.specs.Cards.{partner_of}
use Rattle.laws.specs.Refusals.{Answer, accepted, not_exposable, choice_not_open}
use Rattle.laws.specs.Refused.{answer_by}
use Rattle.laws.specs.CodeRefusal.{most_codes}
use Rattle.play.specs.declared.Play.{Play}
use Rattle.play.specs.Position as Position
use Rattle.play.specs.Position.{turn_of, hand_of, leads, step}
use Rattle.penalty.specs.declared.Turn.{Turn}
use Rattle.found.specs.declared.found.Found.{Found}
use Rattle.position.specs.declared.table.Table.{Table}
use Rattle.penalty.specs.Position.{start_of, obeys_in, excused_in, fails_in, exposable_in, open_in, after_card, with_exposed, with_choice}
use Rattle.found.specs.Found.{none_found, with_revoke, with_lead, with_failure}

-- after cards alone
abbrev pub table_with : Play → ℕ → Table
table_with p opening = record { play = p; side = opening % 2; penalty = start_of; found = none_found }

-- before the first event
unfoldable pub table_of : List ℕ → List ℕ → ℕ → ℕ → Table
table_of holders dealt trump opening = table_with (Position.start_of holders dealt trump opening) opening

-- what the seat at turn has before it plays
unfoldable pub turn_in : Table → Turn
turn_in t = record { hand = hand_of t.play; led = if leads t.play then None else Some t.play.led }

-- a play against Law 50 as twelve bits: trick 4, seat 2, card 6
unfoldable pub entry_in : Table → ℕ → ℕ
entry_in t card = (t.play.played / 4 % 16 + 1) % 16 * 256 + turn_of t.play % 4 * 64 + card % 64

-- the card is a revoke
unfoldable pub revokes_in : Table → ℕ → Bool
revokes_in t card = not (obeys_in t.penalty (turn_in t) card)

-- what is found of the card, but for a play against Law 50
unfoldable pub found_of : Table → ℕ → Found
found_of t card =
    with_lead (with_revoke t.found (leads t.play) (revokes_in t card) (excused_in t.penalty (turn_in t)))
    (leads t.play) (revokes_in t card) t.penalty.required

-- what is found of the card
unfoldable pub found_after : Table → ℕ → Found
found_after t card = if fails_in t.penalty (turn_in t) card then with_failure (found_of t card) (entry_in t card) else found_of t card

-- the leader of the next position, whose play is `after`, is that of this one
unfoldable pub keeps_lead : Table → Play → Bool
keeps_lead t after = eqb after.leader t.play.leader

-- with one card more, after which the play is `after`; where no code was given, the penalty cards need no step
abbrev pub with_play : Table → Play → ℕ → Table
with_play t after card =
    if eqb t.penalty.codes 0 then record { play = after; side = t.side; penalty = t.penalty; found = t.found }
    else if leb 52 card then t
    else record { play = after; side = t.side; penalty = after_card t.penalty card (keeps_lead t after); found = found_after t card }

-- with one card more
unfoldable pub after_play : Table → ℕ → Table
after_play t card = with_play t (step t.play card) card

-- ---- codes
-- there is no room for a code
unfoldable pub full_in : Table → Bool
full_in t = leb most_codes t.penalty.codes

-- the cards that the owner of a card was dealt, and those that the leader's partner was dealt
unfoldable pub owner_word : Table → ℕ → ℕ
owner_word t card = if leb 52 card then 0 else get_or t.play.dealt (get_or t.play.holders card 0 % 4) 0

unfoldable pub partner_word : Table → ℕ
partner_word t = get_or t.play.dealt (partner_of t.play.leader) 0

-- the number that the exposure of a card is refused with
unfoldable pub exposure_in : Table → ℕ → ℕ
exposure_in t card =
    if leb 52 card then not_exposable
    else if exposable_in t.penalty t.side (get_or t.play.holders card 0) card then accepted
    else not_exposable

-- a defender is to lead
unfoldable pub defender_leads : Table → Bool
defender_leads t = leads t.play && eqb (t.play.leader % 2) (t.side % 2)

-- the number that a choice is refused with
unfoldable pub choice_in : Table → ℕ → ℕ → ℕ
choice_in t kind suit = if defender_leads t && open_in t.penalty (partner_word t) kind suit then accepted else choice_not_open

-- with a card exposed
unfoldable pub after_exposed : Table → ℕ → Bool → Table
after_exposed t card deliberate =
    record { play = t.play; side = t.side; penalty = with_exposed t.penalty (owner_word t card) card deliberate; found = t.found }

-- with a choice made
unfoldable pub after_choice : Table → ℕ → ℕ → Table
after_choice t kind suit =
    record { play = t.play; side = t.side; penalty = with_choice t.penalty (partner_word t) kind suit; found = t.found }

-- the position with a card exposed that may be, or the number that it is refused with
unfoldable pub exposed_by : Table → ℕ → Bool → Answer Table
exposed_by t card deliberate = answer_by (exposure_in t card) (after_exposed t card deliberate)

-- the position with a choice made that may be, or the number that it is refused with
unfoldable pub chosen_by : Table → ℕ → ℕ → Answer Table
chosen_by t kind suit = answer_by (choice_in t kind suit) (after_choice t kind suit)
