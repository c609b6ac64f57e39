-- `tally::refusals::dealt_refusal` meets its contract: its tests are those of the rules, in their order. Assumes nothing.
use Rattle.std.proofs.Common.{sym, ap}
use Rattle.std.proofs.lemmas.Result.{err_from_is_err_and}
use mir.Facts.{to_z-of_z}
use Rattle.tally.specs.Steps.{ruled}
use Rattle.tally.proofs.Refusing.{dealt_invalid, dealt_uneven, dealt_fouls, dealt_given}
use Rattle.tally.proofs.refusals.dealt_refusal.Goals as goal

pub returns-then-not-valid : goal.returns-then-not-valid
returns-then-not-valid c =
    dealt_invalid _ _ _ _ _ (ap ruled c.at.ensures) (rw (to_z-of_z c.ranges.score) at (sym c.if-not-valid.ensures))

pub returns-in_err-taken : goal.returns-in_err-taken
returns-in_err-taken c =
    let p = err_from_is_err_and c.from_residual.result c.from_residual.ensures.1 in
    rw (p.1, p.2, c.in_err-taken.was) (dealt_uneven _ _ _ _ (rw (to_z-of_z c.ranges.score) at (sym c.if-not-valid.ensures)))

pub returns-in_err-fouled_refusal : goal.returns-in_err-fouled_refusal
returns-in_err-fouled_refusal c =
    let p = err_from_is_err_and c.from_residual-in_err-fouled_refusal.result c.from_residual-in_err-fouled_refusal.ensures.1 in
    rw (p.1, p.2, c.in_ok-taken.was)
    (dealt_fouls _ _ _ _ _ (rw (to_z-of_z c.ranges.score) at (sym c.if-not-valid.ensures)) c.in_err-fouled_refusal.ensures)

pub returns : goal.returns
returns c =
    rw c.in_ok-taken.was (dealt_given _ _ _ _ (rw (to_z-of_z c.ranges.score) at (sym c.if-not-valid.ensures)) c.in_ok-fouled_refusal.ensures)
