-- `Table::take_exposure` meets its contract: by whether it is refused. Assumes nothing.
use Rattle.std.proofs.Common.{sym}
use Rattle.std.proofs.lemmas.Result.{err_from_is_err_and}
use borrow.Author.Tests.{ne_eqb}
use Rattle.laws.specs.Refusals.{accepted}
use Rattle.laws.specs.Refused.{number}
use Rattle.laws.proofs.RefusalNumbers.{number_not_none}
use Rattle.position.specs.Table.{exposed_by}
use Rattle.position.proofs.table.Table.take_exposure.Goals as goal

pub returns-in_err-exposure_verdict : goal.returns-in_err-exposure_verdict
unfolding exposed_by
returns-in_err-exposure_verdict c =
    let p = err_from_is_err_and c.from_residual.result c.from_residual.ensures.1 in
    let refusal = c.in_err-exposure_verdict.field-0.0 in
    rw (p.1, p.2, sym c.in_err-exposure_verdict.ensures, ne_eqb (number refusal) accepted (number_not_none refusal))

pub returns : goal.returns
unfolding exposed_by
returns c = rw (c.expose.ensures, sym c.in_ok-exposure_verdict.ensures)
