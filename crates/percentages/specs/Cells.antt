-- The cell that a tally gives for a result, and what an answer stands for. Assumes nothing.
use Rattle.std.specs.Prelude.{ℕ, ◌-◌, ◌*◌, not, T, eqb, if◌then◌else◌}
use Rattle.std.specs.Float.Ieee.{is_nan}
use Rattle.laws.specs.Refusals.{Placed, refused_at, given, malformed_tally}
use Rattle.laws.specs.Tally.{Result, asked}
use Rattle.laws.specs.Percentages.{percentage, played, awarded, alone, cell_asked, Cell as Entered}
use Rattle.tally.specs.declared.Tally.{Tally}
use Rattle.tally.specs.Tallies.{results_in, well_formed}
use Rattle.percentages.specs.declared.Cell.{Cell}
use Rattle.percentages.specs.declared.Cell.TheVariants.{Played, Awarded, Alone}
use Rattle.std.specs.Prelude as Std
use Rattle.laws.specs.Refused.{number}
use Rattle.laws.specs.declared.Refused.{Refused}

-- asked for a result of a tally: 17 if the tally isn't well formed, else as for its list of results
unfoldable pub cell_of_tally : Tally → Result → Placed Entered
cell_of_tally t r = if well_formed t then asked cell_asked (results_in t) r else refused_at malformed_tally 0

-- what a cell stands for
abbrev pub entered : Cell → Entered
entered (Played x) = played x
entered (Awarded x) = awarded x
entered Alone = alone

-- what an answer stands for: a refusal by its number and its place, or a cell
abbrev pub cell_answer : Std.Result Cell Refused → Placed Entered
cell_answer (Std.Ok c) = given (entered c)
cell_answer (Std.Err e) = refused_at (number e.refusal) e.place

-- the cell of a result with so many matchpoints, one of so many results
unfoldable pub cell_by : ℕ → ℕ → Placed Entered
cell_by points results = given (if eqb results 1 then alone else played (percentage points (2 * (results - 1))))

-- the float of an answer, where it has one, is a number
abbrev pub Numbered : Placed Entered → Type 0
Numbered (refused_at n place) = Unit {0}
Numbered (given (played x)) = T (not (is_nan x))
Numbered (given (awarded x)) = T (not (is_nan x))
Numbered (given alone) = Unit {0}
