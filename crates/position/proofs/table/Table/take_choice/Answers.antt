-- `Table::take_choice` meets its contract: by whether it is refused. Assumes nothing.
use Rattle.std.proofs.Common.{sym}
use Rattle.std.proofs.lemmas.Result.{err_from_is_err_and}
use borrow.Author.Tests.{ne_eqb}
use Rattle.laws.specs.Refusals.{accepted}
use Rattle.laws.specs.Refused.{number}
use Rattle.laws.proofs.RefusalNumbers.{number_not_none}
use Rattle.position.specs.Table.{chosen_by}
use Rattle.position.proofs.table.Table.take_choice.Goals as goal

pub returns-in_err-choice_verdict : goal.returns-in_err-choice_verdict
unfolding chosen_by
returns-in_err-choice_verdict c =
    let p = err_from_is_err_and c.from_residual.result c.from_residual.ensures.1 in
    let refusal = c.in_err-choice_verdict.field-0.0 in
    rw (p.1, p.2, sym c.in_err-choice_verdict.ensures, ne_eqb (number refusal) accepted (number_not_none refusal))

pub returns : goal.returns
unfolding chosen_by
returns c = rw (c.choose.ensures, sym c.in_ok-choice_verdict.ensures)
