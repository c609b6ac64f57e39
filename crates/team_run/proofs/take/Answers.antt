-- `team_run::take` meets its contract. Assumes nothing.
use mathlib.Core.Path.{◌∙◌}
use borrow.Author.Tests.{eq-eqb, ne_eqb}
use Rattle.team_run.specs.Runs.{taken_byte}
use Rattle.team_run.proofs.take.Goals as goal

pub returns-then-run : goal.returns-then-run
unfolding taken_byte
returns-then-run c = c.silent.ensures ∙ rw c.if-run.true

pub returns-then-b-eq10 : goal.returns-then-b-eq10
unfolding taken_byte
returns-then-b-eq10 c = c.line_done.ensures ∙ rw (c.if-run.false, eq-eqb _ _ c.if-b-eq10.true)

pub returns : goal.returns
unfolding taken_byte
returns c = c.silent-2.ensures ∙ rw (c.with_byte.ensures, c.if-run.false, ne_eqb _ _ c.if-b-eq10.false)
