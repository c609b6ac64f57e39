-- The record up to its last card: what follows each section, what the code's answer says of a reading, and what the auction stands for.
-- Assumes nothing.
use Rattle.std.specs.Prelude.{ℕ, ◌≡◌, List}
use Rattle.laws.specs.Refusals.{Placed}
use Rattle.laws.specs.Law2.{dealer}
use Rattle.laws.specs.Auction as Law
use Rattle.laws.specs.Reading.{Reading, Reader, ◌>>=◌, give}
use Rattle.laws.specs.Judge.{read_calls, read_cards}
use Rattle.laws.specs.LastCard.{ToLastCard}
use Rattle.auction.specs.declared.Auction.{Auction}
use Rattle.auction.specs.Asked.{contract_of}
use Rattle.auction.specs.Position as Calls
use Rattle.position.specs.History.{ThirteenEach, position_of}
use Rattle.last_card.specs.declared.reached.Reached.{Reached}
use Rattle.last_card.specs.declared.reading.Read.{Read}
use Rattle.last_card.specs.Sections.{placed_read}

-- ---- what follows the calls and the deal
unfoldable pub after_calls : ℕ → ℕ → List ℕ → List ℕ → Reader ToLastCard
after_calls board table deal h = do
  e ← read_cards (dealer board) deal h
  give (record { board = board; table = table; deal = deal; calls = h; plays = e })

unfoldable pub after_deal : ℕ → ℕ → List ℕ → Reader ToLastCard
after_deal board table deal = do
  h ← read_calls (dealer board)
  after_calls board table deal h

-- ---- the code's answer
-- board and table as they were read, the contract of the calls, and the position after the events of the play
abbrev pub reached_as : ToLastCard → Reached
reached_as r =
    record {
      board = r.board;
      table = r.table;
      out = Law.passed_out r.calls;
      contract = contract_of (Calls.position_of (dealer r.board) r.calls);
      after = position_of r.deal (Law.trump_after r.calls) (Law.opening_after (dealer r.board) r.calls) r.plays;
    }

abbrev pub reached_of : Reading ToLastCard → Placed (Read Reached)
reached_of r = placed_read reached_as r

-- ---- the auction is that of the calls h
pub record OfCalls (board : ℕ) (a : Auction) (deal h : List ℕ) : Type 0 where
  pub deal_of_lem : ThirteenEach deal
  pub position : a ≡ Calls.position_of (dealer board) h
