-- `transfer::total` meets its contract. The loop goes from the last revoke to the first: the sum is the count from `i` on, at most two for each
-- revoke. Assumes nothing.
use Prim.Native.Nat.{◌≤◌, ◌+◌, ◌*◌, min}
use mathlib.Core.Path.{◌≡◌}
use Rattle.transfer.specs.Inputs.{total_from}
use Rattle.transfer.proofs.total.Given as goal

abbrev pub invariant-loop-i : goal.invariant-loop-i
invariant-loop-i l = (l.i ≤ min l.rs.count 48) × (l.sum + 2 * l.i ≤ 96) × (l.sum ≡ total_from l.i l.rs l.ts l.declarer l.claim l.left)
