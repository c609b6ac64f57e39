-- `matchpoints::points::below` meets its contract, by its test. Assumes nothing.
use mir.Facts.{to_z-of_z}
use Rattle.matchpoints.specs.Points.{below_of}
use Rattle.matchpoints.proofs.points.below.Goals as goal

pub returns-then-other-score : goal.returns-then-other-score
unfolding below_of
returns-then-other-score c = rw (rw (to_z-of_z c.ranges.score, to_z-of_z c.ranges.other) at c.if-other-score.true)

pub returns-else-other-score : goal.returns-else-other-score
unfolding below_of
returns-else-other-score c = rw (rw (to_z-of_z c.ranges.score, to_z-of_z c.ranges.other) at c.if-other-score.false)
