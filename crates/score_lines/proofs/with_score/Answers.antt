-- `score_lines::with_score` meets its contract. Assumes nothing.
use mir.Facts.{to_z-of_z}
use Rattle.score_lines.proofs.with_score.Goals as goal

pub returns : goal.returns
returns c = rw (to_z-of_z c.ranges.score) at c.add.ensures
