-- The sheet by what was found of the lines. Assumes nothing.
use Prim.Native.Nat.{ℕ}
use native.Mathlib.Omega.{arith}
use mathlib.Core.Path.{◌≡◌, refl, sym, ◌∙◌}
use mathlib.Core.Bool.{true}
use mathlib.Core.List.{List, map}
use borrow.Author.Tests.{ne_eqb}
use lib.IntN.{ℤ}
use lib.ListN.{length-map}
use Rattle.laws.specs.Sheet.{lines_of, score_of, table, refusal, tabled, sheet}
use Rattle.laws.specs.CellSheet.{cell_table, cell_sheet}
use Rattle.laws.specs.Tally.{fresh_refusal}
use Rattle.tally.specs.declared.Tally.{Tally}
use Rattle.tally.specs.Entries.{entries_of}
use Rattle.tally.specs.Tallies.{entries_in, tally_for, scores_in, well_formed}
use Rattle.tally.proofs.Formed.{formed, entries-scores}
use Rattle.tally.proofs.OfLists.{Sound, is-well}
use Rattle.tally.proofs.Tables.{table-tally, cell-table-tally}
use Rattle.std.specs.Prelude.{Ok, Err}
use Rattle.score_lines.specs.declared.RefusedLine.{RefusedLine}
use Rattle.score_lines.specs.Whole.{Found}
use Rattle.score_lines.proofs.LinesRead.{carried, carries-lines, lines-tally}
use Rattle.sheet_text.specs.declared.columns.Columns.{Columns}
use Rattle.sheet_text.specs.declared.columns.Columns.TheVariants.{Matchpoints, Percentages}
use Rattle.sheet_text.specs.Columns.{table_as, sheet_as}
use Rattle.sheet_text.proofs.Enough.{Taken, all-taken}

module _ (bytes : List ℕ) (line : RefusedLine) (f : Found bytes (Err line)) where
  tabled-refused : (table_of : List ℤ → List ℕ) → tabled table_of (lines_of bytes) ≡ refusal line.0
  unfolding tabled
  tabled-refused table_of = rw (f.0, ne_eqb line.0 0 f.1)

  pub sheet-refused : (k : Columns) → sheet_as k bytes ≡ refusal line.0
  unfolding sheet cell_sheet
  sheet-refused Matchpoints = tabled-refused table
  sheet-refused Percentages = tabled-refused cell_table

module _ (bytes : List ℕ) (t : Tally) (f : Found bytes (Ok t)) where
  taken : Taken 1 (lines_of bytes)
  taken = all-taken 1 (lines_of bytes) (omega arith) (omega arith) f.0

  abbrev scores : List ℤ
  scores = map score_of (lines_of bytes)

  sound : Sound 1 (carried scores) scores
  unfolding fresh_refusal
  sound = record { board = refl; valid = taken.valid; room = rw length-map (omega (arith, taken.few)); deal = carries-lines scores }

  abbrev its : Tally
  its = tally_for 1 (carried scores) scores

  is_its : t ≡ its
  is_its = f.1 ∙ lines-tally scores

  pub well : well_formed t ≡ true
  well = rw is_its (is-well 1 (carried scores) scores sound)

  own : entries_of (scores_in its) ≡ entries_in its
  own = entries-scores its (formed its (is-well 1 (carried scores) scores sound))

  tabled-table : (table_of : List ℤ → List ℕ) → tabled table_of (lines_of bytes) ≡ table_of scores
  unfolding tabled
  tabled-table table_of = rw f.0

  pub sheet-table : (k : Columns) → sheet_as k bytes ≡ table_as k (scores_in t)
  unfolding sheet cell_sheet
  sheet-table Matchpoints = rw is_its (tabled-table table ∙ sym (table-tally 1 (carried scores) scores sound own))
  sheet-table Percentages = rw is_its (tabled-table cell_table ∙ sym (cell-table-tally 1 (carried scores) scores sound own))
