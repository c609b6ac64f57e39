-- `put_events` meets its contract: what is put, and the fields to come, are all of them. Assumes nothing.
use Prim.Native.Nat.{◌≤◌, ◌+◌, ◌-◌}
use lib.ListN.{length}
use Rattle.writer.proofs.Writing.{Reached}
use Rattle.writer.proofs.write.put_events.Given as goal

abbrev pub invariant-loop-i : goal.invariant-loop-i
invariant-loop-i l = Reached l.initial.q l.initial.out l.plays.numbers.now l.q l.out l.i × (l.i ≤ length l.plays.numbers.now + 2)

abbrev pub decreases-loop-i : goal.decreases-loop-i
decreases-loop-i l = length l.plays.numbers.now - l.i
