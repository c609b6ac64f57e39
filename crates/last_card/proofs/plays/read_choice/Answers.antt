-- `read_choice` meets its contract: a law of CodeTurns for each way out. Assumes nothing.
use Rattle.std.proofs.Common.{◌+◌, arith}
use Rattle.std.proofs.lemmas.Result.{err_from_is_err_and}
use Rattle.field.proofs.ThreeBytes.{given_lt, given-reads, refused_stops}
use Rattle.last_card.proofs.CodeTurns.{choice-counts, kind_short, suit-short, choice_stops, choice-goes}
use Rattle.last_card.proofs.plays.read_choice.Goals as goal

pub returns-in_err-kind-clause-law : goal.returns-in_err-kind-clause-law
returns-in_err-kind-clause-law c =
    let a = c.args in
    let p = err_from_is_err_and c.from_residual.result c.from_residual.ensures.1 in
    λ deal trump opening e o. rw (p.1, p.2) (kind_short deal trump opening e _ _ o _ _ (refused_stops a.bytes.now a.at 2 (omega arith) c.in_err-kind.ensures))

pub returns-in_err-suit-clause-law : goal.returns-in_err-suit-clause-law
returns-in_err-suit-clause-law c =
    let a = c.args in
    let p = err_from_is_err_and c.from_residual-in_err-suit.result c.from_residual-in_err-suit.ensures.1 in
    λ deal trump opening e o. rw (p.1, p.2)
    (suit-short deal trump opening e _ _ o _ _ _ (given-reads a.bytes.now a.at 2 c.in_ok-kind.ensures)
    (refused_stops a.bytes.now (a.at + 2) 2 (omega arith) c.in_err-suit.ensures))

pub overflow_cast-kind : goal.overflow_cast-kind
overflow_cast-kind c = omega (arith, given_lt c.args.bytes.now c.args.at 2 c.in_ok-kind.ensures)

pub overflow_cast-suit : goal.overflow_cast-suit
overflow_cast-suit c = omega (arith, given_lt c.args.bytes.now (c.args.at + 2) 2 c.in_ok-suit.ensures)

pub returns-in-Ok-clause-counted : goal.returns-in-Ok-clause-counted
returns-in-Ok-clause-counted c = (choice-counts _ _ _ c.in-Ok.ensures, omega arith, omega arith)

pub returns-in-Ok-clause-law : goal.returns-in-Ok-clause-law
returns-in-Ok-clause-law c =
    let b = c.args.bytes.now in
    λ deal trump opening e o. choice-goes deal trump opening e _ _ o _ _ _ (given-reads b c.args.at 2 c.in_ok-kind.ensures) _
    (given-reads b (c.args.at + 2) 2 c.in_ok-suit.ensures) c.in-Ok.ensures

pub returns-in-Err-clause-law : goal.returns-in-Err-clause-law
returns-in-Err-clause-law c =
    let b = c.args.bytes.now in
    λ deal trump opening e o. rw c.at.ensures
    (choice_stops deal trump opening e _ _ o _ _ _ (given-reads b c.args.at 2 c.in_ok-kind.ensures) _
    (given-reads b (c.args.at + 2) 2 c.in_ok-suit.ensures) c.in-Err.ensures)
