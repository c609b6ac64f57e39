-- `is_game` meets its contract. Assumes nothing.
use mathlib.Core.Path.{ap}
use lib.Dec.{leb}
use Rattle.laws.specs.Law77.{is_game}
use Rattle.law77.proofs.law77.is_game.Goals as goal

pub returns : goal.returns
unfolding is_game
returns c = ap (leb 100) c.trick_points.ensures
