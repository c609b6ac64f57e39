-- `team_run::asked_in` meets its contract. Assumes nothing.
use mathlib.Core.Path.{◌∙◌}
use borrow.Author.Tests.{lt-ltb, le-ltb}
use Rattle.team_run.specs.Runs.{asked_in}
use Rattle.team_run.proofs.asked_in.Goals as goal

pub returns-then-line-gt20 : goal.returns-then-line-gt20
unfolding asked_in
returns-then-line-gt20 c = rw (lt-ltb _ _ c.if-line-gt20.true)

pub returns : goal.returns
unfolding asked_in
returns c = c.read_line.ensures ∙ rw (le-ltb _ _ c.if-line-gt20.false)
