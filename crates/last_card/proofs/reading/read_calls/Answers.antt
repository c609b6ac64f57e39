-- `read_calls` meets its contract: a law of Sections for each way out. Assumes nothing.
use Rattle.std.proofs.Common.{sym, ◌∙◌, arith}
use Rattle.std.proofs.lemmas.Result.{err_from_is_err_and}
use Rattle.field.proofs.ThreeBytes.{given_lt, given-reads, refused_stops}
use Rattle.last_card.proofs.Sections.{calls-short, calls-stopped, calls_open, calls-over}
use Rattle.last_card.proofs.reading.read_calls.Goals as goal

pub returns-in_err-count : goal.returns-in_err-count
returns-in_err-count c =
    let a = c.args in
    let p = err_from_is_err_and c.from_residual.result c.from_residual.ensures.1 in
    rw (p.1, p.2) (calls-short _ _ _ (refused_stops a.bytes.now a.at 9 (omega arith) c.in_err-count.ensures))

pub read_each_call-requires-clause-count : goal.read_each_call-requires-clause-count
read_each_call-requires-clause-count c = given_lt c.args.bytes.now c.args.at 9 c.in_ok-count.ensures

pub returns-in_err-calls : goal.returns-in_err-calls
returns-in_err-calls c =
    let p = err_from_is_err_and c.from_residual-in_err-calls.result c.from_residual-in_err-calls.ensures.1 in
    rw (p.1, p.2) (calls-stopped _ _ _ _ (given-reads _ c.args.at 9 c.in_ok-count.ensures) c.in_err-calls.ensures)

pub returns-then-not-is_over : goal.returns-then-not-is_over
returns-then-not-is_over c =
    rw c.at.ensures
    (calls_open _ _ _ _ (given-reads _ c.args.at 9 c.in_ok-count.ensures) c.in_ok-calls.ensures (sym c.is_over.ensures ∙ c.if-not-is_over.true))

pub returns : goal.returns
returns c =
    calls-over _ _ _ _ (given-reads _ c.args.at 9 c.in_ok-count.ensures) c.in_ok-calls.ensures (sym c.is_over.ensures ∙ c.if-not-is_over.false)
