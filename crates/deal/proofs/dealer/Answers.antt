-- `dealer` meets its contract. Assumes nothing.
use mathlib.Core.Path.{ap}
use Prim.Native.Nat.{ℕ, ◌%◌}
use Rattle.laws.specs.Law2.{dealer}
use Rattle.deal.proofs.dealer.Goals as goal

pub returns : goal.returns
unfolding dealer
returns c = ap (λ (n : ℕ). n % 4) c.saturating_sub.ensures
