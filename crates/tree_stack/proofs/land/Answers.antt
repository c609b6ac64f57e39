-- `tree_stack::land` meets its contract, by whether a tally was made. Assumes nothing.
use borrow.Author.Tests.{ne_eqb}
use Rattle.laws.specs.Refused.{number}
use Rattle.laws.proofs.RefusalNumbers.{number_not_none}
use Rattle.tree_stack.specs.Stacks.{landed}
use Rattle.tree_stack.proofs.land.Goals as goal

pub returns-in-Ok : goal.returns-in-Ok
unfolding landed
returns-in-Ok c = rw c.in-Ok.is

pub returns-in-Err : goal.returns-in-Err
unfolding landed
returns-in-Err c =
    let e = c.in-Err.refused in
    rw (c.in-Err.is, ne_eqb (number e.refusal) 0 (number_not_none e.refusal))
