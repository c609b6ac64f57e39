-- `tally::check_places` meets its contract. The loop's invariant: the places are in order exactly where those from `i` on are, below `top` and within `room`;
-- and what is counted, with what the places from `i` on hold, is the whole. Assumes nothing.
use Prim.Native.Nat.{◌≤◌, ◌+◌, ◌-◌}
use mathlib.Core.Path.{◌≡◌}
use lib.ListN.{length}
use Rattle.tally.specs.Tallies.{entries_in, ceiling}
use Rattle.tally.proofs.Places.{order_at, entries_at}
use Rattle.tally.proofs.Ordered.{sum_of}
use Rattle.tally.proofs.check_places.Given as goal

abbrev pub invariant-loop-i : goal.invariant-loop-i
invariant-loop-i l =
    (l.room ≤ 128)
    × (order_at l.t.scores l.t.counts ceiling 128 0 ≡ order_at l.t.scores l.t.counts l.top l.room l.i)
    × (sum_of (entries_in l.t) ≡ 128 - l.room + sum_of (entries_at l.t.scores l.t.counts l.i))
    × (length (entries_in l.t) ≡ l.i + length (entries_at l.t.scores l.t.counts l.i))
