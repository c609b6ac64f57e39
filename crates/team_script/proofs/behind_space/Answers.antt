-- `team_script::behind_space` meets its contract. Assumes nothing.
use Rattle.std.proofs.Common.{arith}
use Rattle.team_script.proofs.Fields.{behind-least}
use Rattle.team_script.proofs.behind_space.Goals as goal

pub returns : goal.returns
returns c = (behind-least _ _ c.to_space.ensures.0 _ c.min.ensures, omega (arith, c.min.ensures))
