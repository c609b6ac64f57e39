-- `team_run::start` meets its contract. Assumes nothing.
use Rattle.team_run.specs.Runs.{start_of}
use Rattle.team_run.proofs.start.Goals as goal

pub returns : goal.returns
unfolding start_of
returns c = rw (c.start.ensures, c.first_line.ensures)
