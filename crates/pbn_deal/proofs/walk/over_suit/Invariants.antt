-- `pbn_deal::walk::over_suit` meets its contract. The loop's invariant: what is left of the suit follows from here on where the whole suit does from the
-- front. Assumes nothing.
use Prim.Native.Nat.{ℕ}
use mathlib.Core.Path.{◌≡◌}
use mathlib.Core.List.{List, ◌++◌}
use lib.ListN.{length}
use Rattle.laws.specs.PbnText.{ranks_held}
use Rattle.pbn_deal.specs.Walks.{follows}
use Rattle.pbn_deal.proofs.walk.over_suit.Given as goal

abbrev pub invariant-loop-rank : goal.invariant-loop-rank
invariant-loop-rank l =
    (length l.holders ≡ 52)
    × ((t : List ℕ) → follows l.line l.initial.at (ranks_held l.holders l.seat l.suit 13 ++ t)
    ≡ follows l.line l.at (ranks_held l.holders l.seat l.suit l.rank ++ t))
