-- `matchpoints::points::equal` meets its contract, by its test. Assumes nothing.
use mathlib.Core.Path.{ap}
use mir.Syntax.{w16}
use mir.Val.{of_z}
use Rattle.laws.proofs.Scores.{true_same, ne_same}
use Rattle.matchpoints.specs.Points.{equal_of}
use Rattle.tally.proofs.Places.{same_of}
use Rattle.matchpoints.proofs.points.equal.Goals as goal

pub returns-then-score-other : goal.returns-then-score-other
unfolding equal_of
returns-then-score-other c = rw (true_same c.args.score c.args.other (same_of _ _ c.ranges.score c.ranges.other c.if-score-other.true))

pub returns-else-score-other : goal.returns-else-score-other
unfolding equal_of
returns-else-score-other c = rw (ne_same c.args.score c.args.other (λ e. c.if-score-other.false (ap (of_z w16) e)))
