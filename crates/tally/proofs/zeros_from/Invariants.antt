-- `tally::zeros_from` meets its contract. The loop's invariant: the places from `at` on are zero exactly where none was counted and those from `i` on
-- are zero. Assumes nothing.
use Rattle.std.proofs.Common.{◌≡◌, ◌≤◌, ◌*◌}
use mathlib.Core.Bool.{◌&&◌}
use lib.Dec.{eqb}
use Rattle.tally.proofs.Places.{zeros_at}
use Rattle.tally.proofs.zeros_from.Given as goal

abbrev pub invariant-loop-i : goal.invariant-loop-i
invariant-loop-i l = (l.others ≤ 2 * l.i) × (zeros_at l.scores l.counts l.at ≡ (eqb l.others 0 && zeros_at l.scores l.counts l.i))
