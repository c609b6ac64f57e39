-- `bits_beside_codes` meets its contract: the bits so far and those to come are all of them. Assumes nothing.
use Prim.Native.Nat.{◌≤◌, ◌+◌, ◌-◌}
use lib.ListN.{length}
use Rattle.writer.proofs.Measuring.{Measured}
use Rattle.writer.proofs.write.bits_beside_codes.Given as goal

abbrev pub invariant-loop-i : goal.invariant-loop-i
invariant-loop-i l = Measured l.plays.numbers.now l.sum l.i × (l.i ≤ length l.plays.numbers.now + 2)

abbrev pub decreases-loop-i : goal.decreases-loop-i
decreases-loop-i l = length l.plays.numbers.now - l.i
