-- A run of a script, byte by byte: what it leaves, and what each byte brings. Assumes nothing.
use Rattle.std.specs.Prelude.{ℕ, ◌-◌, Bool, true, false, eqb, replicate, Option, None, Some, if◌then◌else◌}
use Rattle.laws.specs.Sheet.{newline}
use Rattle.script_line.specs.declared.Line.{Line}
use Rattle.script_line.specs.Lines.{first_line, with_byte, next_line, too_long, text_of}
use Rattle.tally.specs.declared.Tally.{Tally}
use Rattle.tally.specs.Tallies.{no_tally}
use Rattle.tree_script.specs.declared.Call.{Call}
use Rattle.tree_stack.specs.declared.Said.{Said}
use Rattle.tree_stack.specs.Saying.{Saying, saying, Stepped}
use Rattle.tree_run.specs.declared.Run.{Run}
use Rattle.tree_run.specs.declared.Fed.{Fed}
use Rattle.tree_script.specs.Calls.{call_on}
use Rattle.tree_stack.specs.declared.Stack.{Stack}
use Rattle.tree_stack.specs.Stacks.{tally_at, lacks, step_of}

-- before the first byte: an empty stack and an empty line
unfoldable pub start_of : Run
start_of = record { stack = record { tallies = replicate 16 no_tally; used = 0 }; line = first_line; over = false }

-- an answer ends the run
abbrev pub is_ended : Saying → Bool
is_ended Saying.done = false
is_ended (Saying.refused n place) = false
is_ended (Saying.points ns ew) = false
is_ended (Saying.played bits) = false
is_ended (Saying.awarded bits) = false
is_ended Saying.alone = false
is_ended Saying.ended = true

-- a run after a byte, or at its end, and what the call answered whose line that ended
pub record Brought : Type 0 where
  pub run : Run
  pub reply : Option Saying

-- what the code's answer to a byte says
abbrev pub brought : Fed → Brought
brought f = record { run = f.run; reply = replied f.reply }
  where
    replied : Option Said → Option Saying
    replied None = None
    replied (Some said) = Some (saying said)

-- the call on the line so far, where one can be read
unfoldable pub call_in : Line → Option Call
call_in l = if too_long l then None else call_on (text_of l)

-- nothing is answered
abbrev pub silently : Run → Brought
silently r = record { run = r; reply = None }

-- what a call brings that ended a line
abbrev pub done_with : Run → Stepped → Brought
done_with r made = record { run = record { stack = made.stack; line = next_line r.line; over = is_ended made.said }; reply = Some made.said }

-- the line is whole: its call is made on the stack, and answers
unfoldable pub line_done : Run → Brought
line_done r = done_with r (step_of r.stack (call_in r.line))

-- a byte more on the line
abbrev pub lengthened : Run → ℕ → Run
lengthened r b = record { stack = r.stack; line = with_byte r.line b; over = false }

-- one byte more; a run that is over takes none
unfoldable pub taken_byte : Run → ℕ → Brought
taken_byte r b = if r.over then silently r else if eqb b newline then line_done r else silently (lengthened r b)

-- the end of the script: its last line may lack a newline
unfoldable pub finished_of : Run → Brought
finished_of r = if r.over then silently r else if eqb r.line.length 0 then silently r else line_done r

-- the top tally of a stack; an all-zero one where it has none
unfoldable pub top_of : Stack → Tally
top_of s = if lacks s 1 then no_tally else tally_at s (s.used - 1)
