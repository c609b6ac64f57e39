-- `percentages::is_award` meets its contract, by its tests. Assumes nothing.
use Rattle.std.proofs.Common.{arith}
use Rattle.laws.specs.Percentages.{is_award}
use Rattle.percentages.proofs.is_award.Goals as goal

pub returns-in-60 : goal.returns-in-60
unfolding is_award
returns-in-60 c = let h = c.in-60.is in grind arith

pub returns-in_default : goal.returns-in_default
unfolding is_award
returns-in_default c = grind arith
