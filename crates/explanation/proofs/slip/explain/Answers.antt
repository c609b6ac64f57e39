-- `explain` meets its contract: a law of Explaining for each way out. Assumes nothing.
use Rattle.explanation.proofs.Explaining.{explained_refused, answer_possible, explained_granted}
use Rattle.explanation.proofs.slip.explain.Goals as goal

pub returns-in-Err : goal.returns-in-Err
returns-in-Err c = explained_refused c.args.bytes.now (rw c.in-Err.is at c.judge.ensures)

pub items_in-requires : goal.items_in-requires
items_in-requires c = answer_possible c.args.bytes.now (rw c.in-Ok.is at c.judge.ensures)

pub returns-in-Ok : goal.returns-in-Ok
returns-in-Ok c = explained_granted c.args.bytes.now (rw c.in-Ok.is at c.judge.ensures) _ c.items_in.ensures
