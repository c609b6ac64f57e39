-- What a call does to a stack of tallies, and what it answers. Assumes nothing.
use Rattle.std.specs.Prelude.{ℕ, ◌+◌, ◌-◌, Bool, ◌||◌, [], ltb, eqb, set, get_or, Option, None, Some, if◌then◌else◌}
use Rattle.std.specs.Float.{binary64}
use Rattle.std.specs.Float.Ieee.{to_bits}
use Rattle.laws.specs.Law78.{Points as BothSides}
use Rattle.laws.specs.Percentages.{played, awarded, alone, award, Cell as Entered}
use Rattle.laws.specs.Refusals.{Placed, refused_at, given, placed}
use Rattle.laws.specs.Tally.{Result}
use Rattle.percentages.specs.Cells.{cell_of_tally}
use Rattle.tally.specs.declared.Tally.{Tally}
use Rattle.tree_script.specs.declared.Given.{Given}
use Rattle.tally.specs.Tallies.{Tallied, fresh_of, add_of, merge_of}
use Rattle.tally.specs.Points.{matchpoints_of}
use Rattle.tree_script.specs.declared.Call.{Call}
use Rattle.tree_script.specs.declared.Call.TheVariants.{Fresh, Add, Merge, Matchpoints, Cell, Award}
use Rattle.tree_stack.specs.Deals.{deal_numbered}
use Rattle.tree_stack.specs.declared.Stack.{Stack}
use Rattle.tree_stack.specs.Saying.{Saying, Stepped}

-- the tally at a place of the stack; past the places of the stack, one that has none itself
abbrev pub tally_at : Stack → ℕ → Tally
tally_at s i = get_or s.tallies i (record { board = 0; deal = []; scores = []; counts = [] })

-- the run ends with the stack as it is
abbrev pub stopped : Stack → Stepped
stopped s = record { stack = s; said = Saying.ended }

-- the tally that a call made stands at a place, with so many used; refused, the stack is as it was
unfoldable pub landed : Stack → ℕ → ℕ → Tallied → Stepped
landed s at used made =
    if eqb made.refusal 0 then record { stack = record { tallies = set s.tallies at made.tally; used = used }; said = Saying.done }
    else record { stack = s; said = Saying.refused made.refusal made.place }

-- fewer tallies on the stack than a call takes (or more than a stack can have)
abbrev pub lacks : Stack → ℕ → Bool
lacks s n = ltb s.used n || ltb 16 s.used

-- the top tally of a stack, where it has one
unfoldable pub top_of : Stack → Option Tally
top_of s = if lacks s 1 then None else Some (tally_at s (s.used - 1))

-- `fresh B`: pushed on a stack that is not full
unfoldable pub fresh_step : Stack → ℕ → Stepped
fresh_step s board = if ltb 15 s.used then stopped s else landed s s.used (s.used + 1) (fresh_of board)

-- a score with the deal of its number
abbrev pub result_of : Given → Result
result_of g = record { score = g.score; deal = deal_numbered g.deal }

-- `add S D`: the top tally with one result more in its place
unfoldable pub add_step : Stack → Given → Stepped
add_step s g =
    if lacks s 1 then stopped s else landed s (s.used - 1) s.used (add_of (tally_at s (s.used - 1)) (result_of g))

-- the stack without its top
abbrev pub lowered : Stack → Stack
lowered s = record { tallies = s.tallies; used = s.used - 1 }

-- `merge`: the two topmost, the lower one first, which is what is left where they are refused
unfoldable pub merge_step : Stack → Stepped
merge_step s =
    if lacks s 2 then stopped s
    else landed (lowered s) (s.used - 2) (s.used - 1) (merge_of (tally_at s (s.used - 2)) (tally_at s (s.used - 1)))

-- an answer for matchpoints, as it is said
abbrev pub said_of : Placed BothSides → Saying
said_of (refused_at n place) = Saying.refused n place
said_of (given p) = Saying.points p.ns p.ew

-- `matchpoints S D`: asked of the top tally
unfoldable pub matchpoints_step : Stack → Given → Stepped
matchpoints_step s g =
    if lacks s 1 then stopped s
    else record { stack = s; said = said_of (matchpoints_of (tally_at s (s.used - 1)) (result_of g)) }

-- an answer for a cell, as it is said: its float by its 64 bits
abbrev pub said_cell : Placed Entered → Saying
said_cell (refused_at n place) = Saying.refused n place
said_cell (given (played x)) = Saying.played (to_bits binary64 x)
said_cell (given (awarded x)) = Saying.awarded (to_bits binary64 x)
said_cell (given alone) = Saying.alone

-- `cell S D`: asked of the top tally
unfoldable pub cell_step : Stack → Given → Stepped
cell_step s g =
    if lacks s 1 then stopped s
    else record { stack = s; said = said_cell (cell_of_tally (tally_at s (s.used - 1)) (result_of g)) }

-- `award N`: asked of no tally
abbrev pub award_step : Stack → ℕ → Stepped
award_step s percent = record { stack = s; said = said_cell (placed (award percent)) }

-- a call on a stack: its own step; a line that cannot be read ends the run
unfoldable pub step_of : Stack → Option Call → Stepped
step_of s (Some (Fresh board)) = fresh_step s board
step_of s (Some (Add g)) = add_step s g
step_of s (Some Merge) = merge_step s
step_of s (Some (Matchpoints g)) = matchpoints_step s g
step_of s (Some (Cell g)) = cell_step s g
step_of s (Some (Award percent)) = award_step s percent
step_of s None = stopped s
