-- `deal::holds_suit` meets its contract. Assumes nothing.
use Prim.Native.Nat.{ℕ}
use mathlib.Core.Path.{ap}
use mathlib.Core.Bool.{not}
use lib.Dec.{eqb}
use Rattle.deal.specs.Hands.{has_suit}
use Rattle.deal.proofs.holds_suit.Goals as goal

pub returns : goal.returns
unfolding has_suit
returns c = ap (λ (n : ℕ). not (eqb n 0)) c.suit_held.ensures
