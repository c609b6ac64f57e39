-- What is said of a record's contents that are given as plain numbers, before they are written: the judge's checks in the judge's order, and before those of a
-- section what no field of it can hold. The checks read nothing, so they are made on no bytes at all.
-- Assumes nothing.
use Rattle.std.specs.Prelude.{ℕ, ◌≤◌, ◌<◌, min, ◌≡◌, Bool, false, not, ◌&&◌, List, [], ◌∷◌, reverse, ltb, eqb, length, get_or}
use Rattle.laws.specs.Choice.{some}
use Rattle.laws.specs.Refusals.{no_board_or_table, not_thirteen, too_many_calls}
use Rattle.laws.specs.Cards.{no_seat}
use Rattle.laws.specs.Law2.{dealer}
use Rattle.laws.specs.Auction.{trump_after, opening_after}
use Rattle.laws.specs.CallRefusal.{call_refusal, call_place}
use Rattle.laws.specs.Events.{Event, played, exposed, choice, begins_code, cards_of, cards_among}
use Rattle.laws.specs.FlatPlay.{Item, items_of, cards_in, item_refusal, after_item, flat_of}
use Rattle.laws.specs.Law68.{Claim, none, agreed}
use Rattle.laws.specs.Record.{Parts}
use Rattle.laws.specs.Reading.{Reader, ◌>>=◌, ◌>>◌, give, refuse, check_code}
use Rattle.laws.specs.Plays.{refuse_by, CardsFollow}
use Rattle.laws.specs.Checks.{Check, check_board, check_table, check_deal, check_over, check_count, check_played_out, check_claim_point, check_claim}
use Rattle.laws.specs.Judge.{Outcome, outcome}

-- a record's contents as they are given: the plays as a flat list of numbers
pub record Given : Type 0 where
  pub board : ℕ
  pub table : ℕ
  pub deal : List ℕ
  pub calls : List ℕ
  pub plays : List ℕ
  pub claim : Claim

-- parts as they are given to be written
abbrev pub given_of : Parts → Given
given_of p = record { board = p.board; table = p.table; deal = p.deal; calls = p.calls; plays = flat_of p.plays; claim = p.claim }

-- the fields of an event can hold its numbers, and a card's begins no code
unfoldable pub EventFits : Event → Type 0
EventFits (played c) = (c ≤ 63) × (begins_code c ≡ false)
EventFits (exposed c deliberate) = c ≤ 63
EventFits (choice kind suit) = (kind ≤ 3) × (suit ≤ 3)

unfoldable pub EachFits : List Event → Type 0
EachFits [] = Unit {0}
EachFits (v ∷ plays) = EventFits v × EachFits plays

-- each part is a number that its field can hold, lawful or not: 52 holders of two bits, so many calls and cards as their counts can tell, codes of six bits;
-- and each code among the cards has a card after it
pub record Fits (p : Parts) : Type 0 where
  pub board : p.board ≤ 127
  pub table : p.table ≤ 511
  pub holders : length p.deal ≡ 52
  pub holder : (k : ℕ) → k < 52 → get_or p.deal k 0 ≤ 3
  pub calls : length p.calls ≤ 511
  pub call : (k : ℕ) → k < length p.calls → get_or p.calls k 0 ≤ 63
  pub cards : cards_among p.plays ≤ 63
  pub plays : EachFits p.plays
  pub follow : CardsFollow p.plays
  pub claim : (tricks : ℕ) → p.claim ≡ agreed tricks → tricks ≤ 15

-- board and table: a board over 127 is refused as board 0 is, and a table over 511 as table 0
unfoldable pub take_heading : ℕ → ℕ → Check
take_heading board table = do
  refuse no_board_or_table 0 (ltb 127 board)
  check_board board
  refuse no_board_or_table 1 (ltb 511 table)
  check_table table

-- there are 52 holders, and each is a seat
unfoldable pub are_seats : List ℕ → Bool
are_seats deal = eqb (length deal) 52 && not (some (λ holder. ltb 3 holder) deal)

-- the deal: another number of holders, or one that is no seat, comes before the seats are counted
unfoldable pub take_deal : List ℕ → Check
take_deal deal = do
  refuse not_thirteen no_seat (not (are_seats deal))
  check_deal deal

-- codes, each checked on the history before it; the whole history, latest first
unfoldable pub take_each : (List ℕ → ℕ → ℕ) → (List ℕ → ℕ → ℕ) → List ℕ → List ℕ → Reader (List ℕ)
take_each place rule [] h = give h
take_each place rule (code ∷ codes) h = do
  check_code place rule h code
  take_each place rule codes (code ∷ h)

-- the calls; d is the dealer. More codes than the count can tell are refused before any is looked at
unfoldable pub take_calls : ℕ → List ℕ → Reader (List ℕ)
take_calls d calls = do
  refuse too_many_calls 511 (ltb 511 (length calls))
  h ← take_each (call_place d) (call_refusal d) calls []
  check_over (length calls) h
  give h

-- items, each checked on the events before it and the items after it; the whole history, latest first
unfoldable pub take_items : ℕ → ℕ → List ℕ → List Item → List Event → Reader (List Event)
take_items trump opening deal [] e = give e
take_items trump opening deal (i ∷ rest) e = do
  refuse_by (item_refusal trump opening deal e i rest) e
  take_items trump opening deal rest (after_item i e)

-- the cards and the codes before them, after the calls h; a number of cards over 63 is told as 63
unfoldable pub take_cards : ℕ → List ℕ → List ℕ → List ℕ → Reader (List Event)
take_cards d deal h plays = do
  check_count (min (cards_in plays) 63) (cards_in plays) h
  take_items (trump_after h) (opening_after d h) deal (items_of plays) []

-- the claim; one over 15 is told as 15
unfoldable pub take_claim : List ℕ → List ℕ → Claim → Check
take_claim h g none = check_played_out h g
take_claim h g (agreed tricks) = do
  check_claim_point h g
  check_claim (min tricks 15) tricks g

-- the whole contents, and the parts that they are
unfoldable pub take_parts : Given → Reader Parts
take_parts c = do
  take_heading c.board c.table
  take_deal c.deal
  h ← take_calls (dealer c.board) c.calls
  e ← take_cards (dealer c.board) c.deal h c.plays
  take_claim h (cards_of e) c.claim
  give (record { board = c.board; table = c.table; deal = c.deal; calls = c.calls; plays = reverse e; claim = c.claim })

-- what is said of the contents: the first check that refuses them, or that they are accepted, as these parts
unfoldable pub contents_of : Given → Outcome
contents_of c = outcome (take_parts c [] 0)
