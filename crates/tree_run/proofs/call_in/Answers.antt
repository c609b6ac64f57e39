-- `tree_run::call_in` meets its contract. Assumes nothing.
use mathlib.Core.Path.{◌∙◌}
use borrow.Author.Tests.{lt-ltb, le-ltb}
use Rattle.tree_run.specs.Runs.{call_in}
use Rattle.tree_run.proofs.call_in.Goals as goal

pub returns-then-line-gt20 : goal.returns-then-line-gt20
unfolding call_in
returns-then-line-gt20 c = rw (lt-ltb _ _ c.if-line-gt20.true)

pub returns : goal.returns
unfolding call_in
returns c = c.read_call.ensures ∙ rw (le-ltb _ _ c.if-line-gt20.false)
