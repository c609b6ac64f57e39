-- `best_tricks` meets its contract: a law of Ending for each way out. Assumes nothing.
use Rattle.std.proofs.Common.{sym, ◌∙◌}
use Rattle.std.proofs.lemmas.Result.{err_from_is_err_and}
use Rattle.best_record.proofs.Ending.{refused-alike, no_ending_lem, ending-best}
use Rattle.best_record.proofs.best_tricks.Goals as goal

pub returns-in_err-reached : goal.returns-in_err-reached
returns-in_err-reached c =
    let p = err_from_is_err_and c.from_residual.result c.from_residual.ensures.1 in
    rw (p.1, p.2) (refused-alike c.args.bytes.now c.in_err-reached.ensures)

pub returns-then-not-is_ending : goal.returns-then-not-is_ending
returns-then-not-is_ending c =
    rw c.at.ensures (no_ending_lem c.args.bytes.now c.in_ok-reached.ensures (sym c.is_ending.ensures ∙ c.if-not-is_ending.true))

pub returns : goal.returns
returns c = rw c.best_play.ensures (ending-best c.args.bytes.now c.in_ok-reached.ensures (sym c.is_ending.ensures ∙ c.if-not-is_ending.false))
