-- `percentages::percentage_of` meets its contract. Assumes nothing.
use Rattle.laws.specs.Percentages.{percentage}
use Rattle.percentages.proofs.percentage_of.Goals as goal

pub returns : goal.returns
unfolding percentage
returns c = rw (c.from-hundredfold.ensures, c.from-most.ensures, c.from.ensures, c.from-2.ensures, c.saturating_sub.ensures)
