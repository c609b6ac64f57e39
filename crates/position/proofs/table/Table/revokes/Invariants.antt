-- `position::table::Table::revokes` meets its contract: both lists are filled in from the last revoke on. The measure is the bits left. Assumes nothing.
use Prim.Native.Nat.{◌-◌}
use Rattle.position.specs.Listed.{listed_byte, flag_at}
use Rattle.play.proofs.Filling.{Listing}
use Rattle.position.proofs.table.Table.revokes.Given as goal

abbrev pub invariant-loop-rest : goal.invariant-loop-rest
invariant-loop-rest l = Listing (listed_byte l.entries l.played l.named) 48 l.initial.rest l.list l.rest l.n l.later × Listing (flag_at l.free) 48 l.initial.rest l.excused l.rest l.n l.later

abbrev pub decreases-loop-rest : goal.decreases-loop-rest
decreases-loop-rest l = 64 - l.later
