-- `tree_stack::fresh_step` meets its contract. Assumes nothing.
use mathlib.Core.Path.{◌∙◌}
use borrow.Author.Tests.{lt-ltb, le-ltb}
use Rattle.tree_stack.specs.Stacks.{fresh_step}
use Rattle.tree_stack.proofs.fresh_step.Goals as goal

pub returns-then-n-gt15 : goal.returns-then-n-gt15
unfolding fresh_step
returns-then-n-gt15 c = c.stop.ensures ∙ rw (lt-ltb _ _ c.if-n-gt15.true)

pub returns : goal.returns
unfolding fresh_step
returns c = c.land.ensures ∙ rw (c.fresh.ensures, le-ltb _ _ c.if-n-gt15.false)
