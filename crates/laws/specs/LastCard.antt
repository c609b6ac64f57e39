-- A record up to its last card: the judge's sections, and nothing of what follows them; and the rest of the record behind it.
-- Histories of calls and of events of the play have the latest first.
-- Assumes nothing.
use Rattle.std.specs.Prelude.{ℕ, List, reverse}
use Rattle.laws.specs.Law2.{dealer}
use Rattle.laws.specs.Events.{Event, cards_of}
use Rattle.laws.specs.Record.{Parts}
use Rattle.laws.specs.Reading.{Reader, ◌>>=◌, ◌>>◌, give, ending}
use Rattle.laws.specs.Judge.{read_heading, read_deal, read_calls, read_cards, read_claim}

-- what a record says up to its last card
pub record ToLastCard : Type 0 where
  pub board : ℕ
  pub table : ℕ
  pub deal : List ℕ
  pub calls : List ℕ
  pub plays : List Event

-- board and table, the deal, the calls, and the cards with the codes before them
unfoldable pub read_to_last_card : Reader ToLastCard
read_to_last_card = do
  top ← read_heading
  deal ← read_deal
  h ← read_calls (dealer top.board)
  e ← read_cards (dealer top.board) deal h
  give (record { board = top.board; table = top.table; deal = deal; calls = h; plays = e })

-- the claim and the padding behind the last card
unfoldable pub read_behind : ToLastCard → Reader Parts
read_behind r = do
  claim ← read_claim r.calls (cards_of r.plays)
  ending
  give (record { board = r.board; table = r.table; deal = r.deal; calls = reverse r.calls; plays = reverse r.plays; claim = claim })
