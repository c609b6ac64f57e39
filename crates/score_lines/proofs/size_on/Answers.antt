-- `score_lines::size_on` meets its contract. Assumes nothing.
use mathlib.Core.Path.{◌∙◌}
use Rattle.score_lines.proofs.Saying.{size_none, size-long, size-zero, size_digits}
use Rattle.score_lines.proofs.size_on.Goals as goal

pub returns-then-bytes-eq0 : goal.returns-then-bytes-eq0
returns-then-bytes-eq0 c = size_none _ c.if-bytes-eq0.true

pub returns-then-bytes-gt4 : goal.returns-then-bytes-gt4
returns-then-bytes-gt4 c = size-long _ c.if-bytes-gt4.true

pub returns-then-bytes-eq48 : goal.returns-then-bytes-eq48
returns-then-bytes-eq48 c = size-zero _ c.if-bytes-eq0.false c.if-bytes-eq48.true

pub returns : goal.returns
returns c = c.read_number.ensures ∙ size_digits _ c.if-bytes-eq0.false c.if-bytes-gt4.false c.if-bytes-eq48.false
