-- The checks of what stands in a text up to Play's tag, and what the code says of them.
-- Assumes nothing.
use Rattle.std.specs.Prelude.{ℕ, not, List, eqb, Option, Some, None}
use Rattle.laws.specs.Refusals.{Placed, outside_subset}
use Rattle.laws.specs.Refused.{placed_in}
use Rattle.laws.specs.Law2.{dealer}
use Rattle.laws.specs.Auction.{trump_after}
use Rattle.laws.specs.Reading.{Reading, Reader, ◌>>=◌, ◌>>◌, give, refuse}
use Rattle.laws.specs.Contents.{take_heading, take_deal, take_calls}
use Rattle.laws.specs.PbnText.{Listed, Game}
use Rattle.laws.specs.Pbn.{play_line, play_stands}

-- how many cards Play lists, by its seat
abbrev pub cards_in : Option ℕ → ℕ
cards_in None = 0
cards_in (Some seat) = 52

-- the calls and Play's tag; the history of the calls
unfoldable pub take_auction : ℕ → List ℕ → Listed → Reader (List ℕ)
take_auction d calls play = do
  h ← take_calls d calls
  refuse outside_subset (play_line calls) (not (play_stands d h play))
  give h

-- the checks of a game, as the Laws' `take_game` begins
unfoldable pub take_tags : Game → ℕ → Reader (List ℕ)
take_tags x table = do
  take_heading x.board table
  refuse outside_subset 3 (not (eqb x.caller (dealer x.board)))
  take_deal x.holders
  take_auction (dealer x.board) x.calls x.play

-- the trump after the calls, or the first refusal with its place
abbrev pub trump_by : Reading (List ℕ) → Placed ℕ
trump_by r = placed_in trump_after r
