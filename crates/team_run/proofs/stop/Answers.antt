-- `team_run::stop` meets its contract. Assumes nothing.
use Rattle.team_run.specs.Runs.{done_with}
use Rattle.team_run.proofs.stop.Goals as goal

pub returns : goal.returns
unfolding done_with
returns c = rw c.next_line.ensures
