-- `entry` meets its contract. Assumes nothing.
use mathlib.Core.Path.{refl}
use native.Mathlib.Omega.{arith}
use Rattle.auction.specs.Position.{entry_at}
use Rattle.auction.proofs.entry.Goals as goal

pub returns : goal.returns
unfolding entry_at
returns c = record { value = refl; bound = omega arith }
