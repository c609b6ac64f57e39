-- `percentages::award` meets its contract, by its test. Assumes nothing.
use Rattle.std.proofs.Common.{sym}
use Rattle.laws.specs.Percentages.{award}
use Rattle.percentages.proofs.award.Goals as goal

pub returns-then-is_award : goal.returns-then-is_award
unfolding award
returns-then-is_award c = rw (sym c.if-is_award.ensures, c.from.ensures)

pub returns : goal.returns
unfolding award
returns c = rw (sym c.if-is_award.ensures, c.at.ensures)
