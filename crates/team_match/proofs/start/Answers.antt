-- `team_match::start` meets its contract. Assumes nothing.
use mathlib.Core.Path.{refl}
use Rattle.team_match.specs.Matches.{start_of}
use Rattle.team_match.proofs.start.Goals as goal

pub returns : goal.returns
unfolding start_of
returns c = refl
