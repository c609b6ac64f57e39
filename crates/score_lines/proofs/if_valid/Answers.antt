-- `score_lines::if_valid` meets its contract. Assumes nothing.
use Rattle.score_lines.proofs.if_valid.Goals as goal
use Rattle.score_lines.proofs.Saying.{valid-said, not_valid}

pub returns-then-valid : goal.returns-then-valid
returns-then-valid c = valid-said _ _ c.ranges.score c.valid.ensures c.if-valid.true

pub returns-else-valid : goal.returns-else-valid
returns-else-valid c = not_valid _ _ c.ranges.score c.valid.ensures c.if-valid.false
