-- `score_lines::signed` meets its contract. Assumes nothing.
use Rattle.std.proofs.Common.{◌∙◌}
use Rattle.score_lines.proofs.Saying.{none-signed, over-signed, positive_said, negative_said, minus-fits}
use Rattle.score_lines.proofs.signed.Goals as goal

pub returns-in_err-size : goal.returns-in_err-size
returns-in_err-size c = c.from_residual.ensures ∙ none-signed c.args.minus c.in_err-size.was

pub returns-then-size-gt7600 : goal.returns-then-size-gt7600
returns-then-size-gt7600 c = over-signed c.args.minus c.in_ok-size.was c.if-size-gt7600.true

pub overflow_sub-size : goal.overflow_sub-size
overflow_sub-size c = minus-fits _ c.if-size-gt7600.false

pub returns-then-minus : goal.returns-then-minus
returns-then-minus c = rw c.if-minus.true (negative_said _ _ _ c.in_ok-size.was c.if-size-gt7600.false c.if_valid.ensures)

pub returns : goal.returns
returns c = rw c.if-minus.false (positive_said _ _ _ c.in_ok-size.was c.if-size-gt7600.false c.if_valid-2.ensures)
