-- `team_script::to_space` meets its contract. Assumes nothing.
use Rattle.team_script.proofs.Fields.{space_ends}
use Rattle.team_script.proofs.to_space.Goals as goal

pub returns : goal.returns
returns c = space_ends _ c.part_end.ensures
