-- What the code keeps of what was read of a text: its stage, calls and cards as far as there is room. Assumes nothing.
use Rattle.std.specs.Prelude.{ℕ, ◌≡◌, List, [], Option, Some, None}
use Rattle.laws.specs.PbnText.{Listed, absent, columns, Game}
use Rattle.laws.specs.PbnReading.{Read, misses, reads, board, deal, auction, first_calls, calls, calls_over, cards, State, line_in}
use Rattle.laws.specs.PbnReading as Reading
use Rattle.pbn_text.specs.declared.state.Stage.{Stage}
use Rattle.pbn_text.specs.declared.state.Stage.TheVariants.{Board, Deal, Auction, FirstCalls, Calls, CallsOver, Cards}
use Rattle.pbn_text.specs.declared.state.Text.{Text}
use Rattle.pbn_text.specs.Kept.{kept_of}

-- the stage as the code has it, and the stage that the code means
abbrev pub stage_of : Reading.Stage → Stage
stage_of board = Board
stage_of deal = Deal
stage_of auction = Auction
stage_of first_calls = FirstCalls
stage_of calls = Calls
stage_of calls_over = CallsOver
stage_of (cards n) = Cards n

abbrev pub stage_in : Stage → Reading.Stage
stage_in Board = board
stage_in Deal = deal
stage_in Auction = auction
stage_in FirstCalls = first_calls
stage_in Calls = calls
stage_in CallsOver = calls_over
stage_in (Cards n) = cards n

-- Play's seat, none where there is no Play, and its cards
abbrev pub seat_of : Listed → Option ℕ
seat_of absent = None
seat_of (columns seat listed) = Some seat

abbrev pub listed_of : Listed → List ℕ
listed_of absent = []
listed_of (columns seat listed) = listed

unfoldable pub text_of : State → Text
text_of s =
    record {
      stage = stage_of s.stage;
      board = s.game.board;
      caller = s.game.caller;
      seat = seat_of s.game.play;
      holders = s.game.holders;
      calls = kept_of s.game.calls;
      cards = kept_of (listed_of s.game.play);
    }

-- what is kept after a line
abbrev pub kept_after : Read State → Option Text
kept_after misses = None
kept_after (reads s) = Some (text_of s)

-- at a line of cards Play lists some
abbrev pub Lists : Reading.Stage → Game → Type 0
Lists board x = Unit {0}
Lists deal x = Unit {0}
Lists auction x = Unit {0}
Lists first_calls x = Unit {0}
Lists calls x = Unit {0}
Lists calls_over x = Unit {0}
Lists (cards n) x = (seat : ℕ) × (listed : List ℕ) × (x.play ≡ columns seat listed)

-- what the code keeps after a line of any stage
abbrev pub StepsOn : Text → List ℕ → Option Text → Type 0
StepsOn t line r =
    (stage : Reading.Stage) (x : Game) → t ≡ text_of (record { stage = stage; game = x }) → Lists stage x → r ≡ kept_after (line_in stage x line)
