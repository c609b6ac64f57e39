-- The judge: the order of checks, section by section as docs/RULES.md has them, on the fields read and the histories of calls and events of the play.
-- Assumes nothing.
use Rattle.std.specs.Prelude.{ℕ, ◌≤◌, List, [], reverse, ltb, eqb, if◌then◌else◌}
use Rattle.laws.specs.Refusals.{refusal_number, short_buffer}
use Rattle.laws.specs.Law2.{dealer}
use Rattle.laws.specs.Auction.{trump_after, opening_after}
use Rattle.laws.specs.CallRefusal.{call_refusal, call_place}
use Rattle.laws.specs.Events.{Event, cards_of}
use Rattle.laws.specs.CodeRefusal.{most_codes}
use Rattle.laws.specs.Plays.{read_plays}
use Rattle.laws.specs.Law68.{Claim, none, agreed}
use Rattle.laws.specs.Checks.{check_board, check_table, check_deal, check_over, check_count, check_played_out, check_claim_point, check_claim}
use Rattle.laws.specs.Record.{Parts}
use Rattle.laws.specs.Reading.{Reading, Reader, ◌>>=◌, ◌>>◌, give, read, refuse, read_row, read_each, ending}
use Rattle.laws.specs.Reading.{Reading.refused as stopped, Reading.found as read-to}

-- board and table
pub record Heading : Type 0 where
  pub board : ℕ
  pub table : ℕ

unfoldable pub read_heading : Reader Heading
read_heading = do
  board ← read 7
  table ← read 9
  check_board board
  check_table table
  give (record { board = board; table = table })

-- the deal
unfoldable pub read_deal : Reader (List ℕ)
read_deal = do
  deal ← read_row 2 52
  check_deal deal
  give deal

-- the calls, latest first; d is the dealer
unfoldable pub read_calls : ℕ → Reader (List ℕ)
read_calls d = do
  count ← read 9
  h ← read_each 6 (call_place d) (call_refusal d) count []
  check_over count h
  give h

-- the play count, and the cards with the codes before them, latest first, after the calls h
unfoldable pub read_cards : ℕ → List ℕ → List ℕ → Reader (List Event)
read_cards d deal h = do
  count ← read 6
  check_count count count h
  read_plays (trump_after h) (opening_after d h) deal count most_codes []

-- no claim
unfoldable pub read_no_claim : List ℕ → List ℕ → Reader Claim
read_no_claim h g = do
  check_played_out h g
  give none

-- a marked claim
unfoldable pub read_marked_claim : List ℕ → List ℕ → Reader Claim
read_marked_claim h g = do
  check_claim_point h g
  tricks ← read 4
  check_claim tricks tricks g
  give (agreed tricks)

-- the claim's mark, and the claim
unfoldable pub read_claim : List ℕ → List ℕ → Reader Claim
read_claim h g = do
  mark ← read 1
  if eqb mark 0 then read_no_claim h g else read_marked_claim h g

-- the whole record, and nothing after it but padding
unfoldable pub read_record : Reader Parts
read_record = do
  top ← read_heading
  deal ← read_deal
  h ← read_calls (dealer top.board)
  e ← read_cards (dealer top.board) deal h
  claim ← read_claim h (cards_of e)
  ending
  give (record { board = top.board; table = top.table; deal = deal; calls = reverse h; plays = reverse e; claim = claim })

-- the lengths of the lent buffers
pub record Rooms : Type 0 where
  pub answer : ℕ
  pub list : ℕ
  pub failures : ℕ
  pub winners : ℕ

-- the least lengths that serve
abbrev pub least_rooms : Rooms
least_rooms = record { answer = 7; list = 48; failures = 52; winners = 26 }

-- no lent buffer is too short
pub record Enough (rooms : Rooms) : Type 0 where
  pub answer : least_rooms.answer ≤ rooms.answer
  pub list : least_rooms.list ≤ rooms.list
  pub failures : least_rooms.failures ≤ rooms.failures
  pub winners : least_rooms.winners ≤ rooms.winners

-- the lent buffers come before the record
unfoldable pub read_lent : Rooms → Reader Parts
read_lent rooms = do
  refuse short_buffer 0 (ltb rooms.answer least_rooms.answer)
  refuse short_buffer 1 (ltb rooms.list least_rooms.list)
  refuse short_buffer 2 (ltb rooms.failures least_rooms.failures)
  refuse short_buffer 3 (ltb rooms.winners least_rooms.winners)
  read_record

-- a refusal with its number and place, or the parts of an accepted record
pub data Outcome : Type 0 where
  refused : ℕ → ℕ → Outcome
  accepted : Parts → Outcome

abbrev pub outcome : Reading Parts → Outcome
outcome (stopped n place) = refused n place
outcome (read-to p at) = accepted p

-- what the judge says of the bytes, given buffers of these lengths
unfoldable pub judge_of : List ℕ → Rooms → Outcome
judge_of bytes rooms = outcome (read_lent rooms bytes 0)

-- the number returned: 0, or refusal × 1024 + place
abbrev pub number_of : Outcome → ℕ
number_of (refused n place) = refusal_number n place
number_of (accepted p) = 0
