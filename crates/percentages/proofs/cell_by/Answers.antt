-- `percentages::cell_by` meets its contract, by its test. Assumes nothing.
use borrow.Author.Tests.{eq-eqb, ne_eqb}
use Rattle.percentages.specs.Cells.{cell_by}
use Rattle.percentages.proofs.cell_by.Goals as goal

pub returns-then-results-eq1 : goal.returns-then-results-eq1
unfolding cell_by
returns-then-results-eq1 c = rw (eq-eqb _ _ c.if-results-eq1.true)

pub returns : goal.returns
unfolding cell_by
returns c = rw (ne_eqb _ _ c.if-results-eq1.false, c.percentage_of.ensures)
