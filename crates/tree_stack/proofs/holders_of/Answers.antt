-- `tree_stack::holders_of` meets its contract, by the deal's number. Assumes nothing.
use Rattle.std.proofs.Common.{arith}
use borrow.Author.Tests.{ne_eqb}
use Rattle.tree_stack.specs.Deals.{deal_numbered}
use Rattle.tree_stack.proofs.holders_of.Goals as goal

pub returns-in-1 : goal.returns-in-1
unfolding deal_numbered
returns-in-1 c = rw c.in-1.is c.with_two.ensures

pub returns-in-2 : goal.returns-in-2
unfolding deal_numbered
returns-in-2 c = rw c.in-2.is c.with_two-in-2.ensures

pub returns-in-3 : goal.returns-in-3
unfolding deal_numbered
returns-in-3 c = rw c.in-3.is c.with_two-in-3.ensures

pub returns-in-4 : goal.returns-in-4
unfolding deal_numbered
returns-in-4 c = rw c.in-4.is c.with_two-in-4.ensures

pub returns-in-5 : goal.returns-in-5
unfolding deal_numbered
returns-in-5 c = rw c.in-5.is c.with_two-in-5.ensures

pub returns-in_default : goal.returns-in_default
unfolding deal_numbered
returns-in_default c =
    let d = c.args.deal in
    rw (ne_eqb d 1 (λ e. omega arith), ne_eqb d 2 (λ e. omega arith), ne_eqb d 3 (λ e. omega arith), ne_eqb d 4 (λ e. omega arith), ne_eqb d 5 (λ e. omega arith))
