-- `score_lines::results_of` meets its contract. The loop's invariant: `Read`. Assumes nothing.
use Prim.Native.Nat.{◌-◌}
use lib.ListN.{length}
use Rattle.score_lines.proofs.LinesRead.{Read}
use Rattle.score_lines.proofs.results_of.Given as goal

abbrev pub invariant-loop-at : goal.invariant-loop-at
invariant-loop-at l = Read l.bytes l.t l.k l.at

abbrev pub decreases-loop-at : goal.decreases-loop-at
decreases-loop-at l = length l.bytes - l.at
