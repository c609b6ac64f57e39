-- `take_calls` meets its contract: a law of Called for each way out. Assumes nothing.
use Rattle.std.proofs.Common.{sym, ◌∙◌}
use Rattle.std.proofs.lemmas.Result.{err_from_is_err_and}
use Rattle.contents.proofs.Called.{calls-many, calls-stopped, calls_open, calls-over}
use Rattle.contents.proofs.calls.take_calls.Goals as goal

pub returns-then-calls-gt511 : goal.returns-then-calls-gt511
returns-then-calls-gt511 c = rw c.at.ensures (calls-many _ _ c.if-calls-gt511.true)

pub returns-in_err-after : goal.returns-in_err-after
returns-in_err-after c =
    let p = err_from_is_err_and c.from_residual.result c.from_residual.ensures.1 in
    rw (p.1, p.2) (calls-stopped _ _ c.if-calls-gt511.false c.in_err-after.ensures)

pub returns-then-not-is_over : goal.returns-then-not-is_over
returns-then-not-is_over c =
    rw c.at-then-not-is_over.ensures (calls_open _ _ c.if-calls-gt511.false c.in_ok-after.ensures (sym c.is_over.ensures ∙ c.if-not-is_over.true))

pub returns : goal.returns
returns c = calls-over _ _ c.if-calls-gt511.false c.in_ok-after.ensures (sym c.is_over.ensures ∙ c.if-not-is_over.false)
