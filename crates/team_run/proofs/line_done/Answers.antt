-- `team_run::line_done` meets its contract, by what the line asks for. Assumes nothing.
use Rattle.std.proofs.Common.{ap, ◌∙◌}
use Rattle.team_run.specs.Runs.{done_with}
use Rattle.team_run.proofs.line_done.Goals as goal

pub returns-in-Some : goal.returns-in-Some
returns-in-Some c = c.play_board.ensures ∙ ap (done_with _) c.in-Some.ensures

pub returns-in-None : goal.returns-in-None
returns-in-None c = c.stop.ensures ∙ ap (done_with _) c.in-None.ensures
