-- `read_exposed` meets its contract: a law of CodeTurns for each way out. Assumes nothing.
use Rattle.std.proofs.Common.{◌+◌, arith}
use Rattle.std.proofs.lemmas.Result.{err_from_is_err_and}
use Rattle.field.proofs.ThreeBytes.{given_lt, given-reads, refused_stops}
use Rattle.last_card.proofs.CodeTurns.{exposed-counts, card-short, bit-short, exposed_stops, exposed-goes}
use Rattle.last_card.proofs.plays.read_exposed.Goals as goal

pub returns-in_err-card-clause-law : goal.returns-in_err-card-clause-law
returns-in_err-card-clause-law c =
    let a = c.args in
    let p = err_from_is_err_and c.from_residual.result c.from_residual.ensures.1 in
    λ deal trump opening e o. rw (p.1, p.2) (card-short deal trump opening e _ _ o _ _ (refused_stops a.bytes.now a.at 6 (omega arith) c.in_err-card.ensures))

pub returns-in_err-bit-clause-law : goal.returns-in_err-bit-clause-law
returns-in_err-bit-clause-law c =
    let a = c.args in
    let p = err_from_is_err_and c.from_residual-in_err-bit.result c.from_residual-in_err-bit.ensures.1 in
    λ deal trump opening e o. rw (p.1, p.2)
    (bit-short deal trump opening e _ _ o _ _ _ (given-reads a.bytes.now a.at 6 c.in_ok-card.ensures)
    (refused_stops a.bytes.now (a.at + 6) 1 (omega arith) c.in_err-bit.ensures))

pub overflow_cast-card : goal.overflow_cast-card
overflow_cast-card c = omega (arith, given_lt c.args.bytes.now c.args.at 6 c.in_ok-card.ensures)

pub returns-in-Ok-clause-counted : goal.returns-in-Ok-clause-counted
returns-in-Ok-clause-counted c = (exposed-counts _ _ _ c.in-Ok.ensures, omega arith, omega arith)

pub returns-in-Ok-clause-law : goal.returns-in-Ok-clause-law
returns-in-Ok-clause-law c =
    let b = c.args.bytes.now in
    λ deal trump opening e o. exposed-goes deal trump opening e _ _ o _ _ _ (given-reads b c.args.at 6 c.in_ok-card.ensures) _
    (given-reads b (c.args.at + 6) 1 c.in_ok-bit.ensures) c.in-Ok.ensures

pub returns-in-Err-clause-law : goal.returns-in-Err-clause-law
returns-in-Err-clause-law c =
    let b = c.args.bytes.now in
    λ deal trump opening e o. rw c.at.ensures
    (exposed_stops deal trump opening e _ _ o _ _ _ (given-reads b c.args.at 6 c.in_ok-card.ensures) _
    (given-reads b (c.args.at + 6) 1 c.in_ok-bit.ensures) c.in-Err.ensures)
