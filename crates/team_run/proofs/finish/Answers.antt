-- `team_run::finish` meets its contract. Assumes nothing.
use Rattle.std.proofs.Common.{◌∙◌}
use borrow.Author.Tests.{eq-eqb, ne_eqb}
use Rattle.team_run.specs.Runs.{finished_of}
use Rattle.team_run.proofs.finish.Goals.{then-run-via-then-run, then-run-via-else-run+then-run-eq0}
use Rattle.team_run.proofs.finish.Goals as goal

pub returns-then-run : goal.returns-then-run
unfolding finished_of
returns-then-run c =
    elim c.then-run.branch [
      | then-run-via-then-run w ↦ c.silent.ensures ∙ rw w.if-run.true
      | then-run-via-else-run+then-run-eq0 w ↦ c.silent.ensures ∙ rw (w.if-run.false, eq-eqb _ _ w.if-run-eq0.true)
    ]

pub returns : goal.returns
unfolding finished_of
returns c = c.line_done.ensures ∙ rw (c.if-run.false, ne_eqb _ _ c.if-run-eq0.false)
