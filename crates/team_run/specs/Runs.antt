-- A run of a team match, byte by byte: what it leaves, and what each byte brings. Assumes nothing.
use Rattle.std.specs.Prelude.{ℕ, true, false, eqb, ℤ, Option, None, Some, if◌then◌else◌}
use Rattle.laws.specs.Refusals.{Answer}
use Rattle.laws.specs.Sheet.{newline}
use Rattle.laws.specs.TeamMatch.{Call}
use Rattle.score.specs.Units.{imp_answer}
use Rattle.script_line.specs.declared.Line.{Line}
use Rattle.script_line.specs.Lines.{first_line, with_byte, next_line, too_long, text_of}
use Rattle.team_match.specs.Matches.{start_of as startOfMatch, answer_on, after_on}
use Rattle.team_script.specs.declared.Board.{Board}
use Rattle.team_script.specs.Boards.{asked_on}
use Rattle.team_run.specs.declared.Run.{Run}
use Rattle.team_run.specs.declared.Reply.{Reply}
use Rattle.team_run.specs.declared.Reply.TheVariants.{Answer as Answered, Stopped}
use Rattle.team_run.specs.declared.Fed.{Fed}

-- before the first byte: a match without boards, and an empty line
unfoldable pub start_of : Run
start_of = record { state = startOfMatch; line = first_line; over = false }

-- the board on the line so far, where it can be read
unfoldable pub asked_in : Line → Option Board
asked_in l = if too_long l then None else asked_on (text_of l)

-- what a line brings: what its board is answered, with a refusal's number; or that the run ends there
pub data Replied : Type 0 where
  answers : Answer ℤ → Replied
  ends : Replied

-- a run after a byte, or at its end, and what that brought where it ended a line
pub record Brought : Type 0 where
  pub run : Run
  pub reply : Option Replied

-- what the code's answer to a byte says
abbrev pub brought : Fed → Brought
brought f = record { run = f.run; reply = replied f.reply }
  where
    replied : Option Reply → Option Replied
    replied None = None
    replied (Some (Answered answer)) = Some (answers (imp_answer answer))
    replied (Some Stopped) = Some ends

-- nothing is answered
abbrev pub silently : Run → Brought
silently r = record { run = r; reply = None }

-- what a whole line asks for is done: its board is played, and a line that cannot be read ends the run
unfoldable pub done_with : Run → Option Board → Brought
done_with r (Some b) =
    let c : Call = record { board = b.number; first = b.first; second = b.second } in
    record {
      run = record { state = after_on r.state c; line = next_line r.line; over = false };
      reply = Some (answers (answer_on r.state c));
    }
done_with r None = record { run = record { state = r.state; line = next_line r.line; over = true }; reply = Some ends }

-- the line is whole
abbrev pub line_done : Run → Brought
line_done r = done_with r (asked_in r.line)

-- a byte more on the line
abbrev pub lengthened : Run → ℕ → Run
lengthened r b = record { state = r.state; line = with_byte r.line b; over = false }

-- one byte more; a run that is over takes none
unfoldable pub taken_byte : Run → ℕ → Brought
taken_byte r b = if r.over then silently r else if eqb b newline then line_done r else silently (lengthened r b)

-- the end of the input: its last line may lack a newline
unfoldable pub finished_of : Run → Brought
finished_of r = if r.over then silently r else if eqb r.line.length 0 then silently r else line_done r
