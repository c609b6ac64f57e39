-- Portable Bridge Notation: the record that a text gives, or its refusal. The text comes first; what stands in it is then checked as
-- contents of a record are, by the same checks in the same order, and among them the seats of the tags: Auction's directly after board and table, Play's
-- directly after the calls.
-- Assumes nothing.
use Rattle.std.specs.Prelude.{ℕ, ◌+◌, ◌/◌, min, ◌≡◌, Bool, true, not, ◌&&◌, List, [], reverse, eqb, length, if◌then◌else◌}
use Rattle.laws.specs.Refusals.{outside_subset}
use Rattle.laws.specs.Law2.{dealer}
use Rattle.laws.specs.Auction.{passed_out, trump_after, opening_after}
use Rattle.laws.specs.Events.{cards_of, codes_of}
use Rattle.laws.specs.Law68.{none}
use Rattle.laws.specs.Record.{Parts}
use Rattle.laws.specs.Reading.{Reader, ◌>>=◌, ◌>>◌, give, refuse}
use Rattle.laws.specs.Judge.{Outcome, Outcome.refused, outcome}
use Rattle.laws.specs.Contents.{Given, take_heading, take_deal, take_calls, take_cards, take_claim}
use Rattle.laws.specs.Writing.{Written, write_by}
use Rattle.laws.specs.PbnText.{Listed, absent, columns, Game, EachBelow}
use Rattle.laws.specs.PbnOrder.{order_of_play, columns_of}
use Rattle.laws.specs.PbnReading.{Parsed, outside, game, parse}

-- a place tells no line beyond this
abbrev pub last_place : ℕ
last_place = 1023

-- the line after the last line of calls, where the Play tag stands or should
unfoldable pub play_line : List ℕ → ℕ
play_line calls = 4 + (length calls + 3) / 4

-- after the calls h Play is there where there is a contract, with the opening leader's seat, and not where the board was passed out
unfoldable pub play_stands : ℕ → List ℕ → Listed → Bool
play_stands d h absent = passed_out h
play_stands d h (columns seat cards) = not (passed_out h) && eqb seat (opening_after d h)

-- the cards in order of play, with the strain of the contract as trump
unfoldable pub cards_listed : ℕ → Listed → List ℕ
cards_listed trump absent = []
cards_listed trump (columns seat cards) = order_of_play trump seat cards

-- what stands in a text, at a table, checked in order; and the parts of the record
unfoldable pub take_game : Game → ℕ → Reader Parts
take_game x table = do
  take_heading x.board table
  refuse outside_subset 3 (not (eqb x.caller (dealer x.board)))
  take_deal x.holders
  h ← take_calls (dealer x.board) x.calls
  refuse outside_subset (play_line x.calls) (not (play_stands (dealer x.board) h x.play))
  e ← take_cards (dealer x.board) x.holders h (cards_listed (trump_after h) x.play)
  take_claim h (cards_of e) none
  give (record { board = x.board; table = table; deal = x.holders; calls = x.calls; plays = reverse e; claim = none })

-- what is said of a text
unfoldable pub pbn_outcome : Parsed → ℕ → Outcome
pbn_outcome (outside line) table = refused outside_subset (min line last_place)
pbn_outcome (game x) table = outcome (take_game x table [] 0)

-- the record of a text at a table, in a buffer of so many bytes
unfoldable pub read_pbn : List ℕ → ℕ → ℕ → Written
read_pbn t table room = write_by (pbn_outcome (parse t) table) room

-- what stands in a text, at a table, as a record's contents: the cards in order of play, and no claim
unfoldable pub contents_in : Game → ℕ → Given
contents_in x table =
    record {
      board = x.board;
      table = table;
      deal = x.holders;
      calls = x.calls;
      plays = cards_listed (trump_after (reverse x.calls)) x.play;
      claim = none;
    }

-- the seat of the Auction tag is the dealer, and Play is as the calls have it
pub record TagsStand (x : Game) : Type 0 where
  pub auction : x.caller ≡ dealer x.board
  pub play : play_stands (dealer x.board) (reverse x.calls) x.play ≡ true

-- ---- a record's parts as a text
-- what Play lists of the cards in order of play after the calls h: nothing where the board was passed out
unfoldable pub listed_of : ℕ → List ℕ → List ℕ → Listed
listed_of d h cards = if passed_out h then absent else columns (opening_after d h) (columns_of (trump_after h) (opening_after d h) cards)

-- what stands in a text of the parts, whose Deal tag has a seat's hand first
unfoldable pub game_of : Parts → ℕ → Game
game_of p first =
    record {
      board = p.board;
      first = first;
      holders = p.deal;
      caller = dealer p.board;
      calls = p.calls;
      play = listed_of (dealer p.board) (reverse p.calls) (cards_of p.plays);
    }

-- parts that a text can say: no accepted insufficient bid is marked, no card was exposed and no lead chosen, and nothing is claimed
pub record Plain (p : Parts) : Type 0 where
  pub calls : EachBelow 38 p.calls
  pub plays : codes_of p.plays ≡ 0
  pub claim : p.claim ≡ none
