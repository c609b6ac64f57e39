-- `deal_in` meets its contract: the first i of the row are those of the bytes. Assumes nothing.
use Prim.Native.Nat.{}
use mathlib.Core.Path.{◌≡◌}
use lib.ListN.{length, take}
use lib.Seq.{slice}
use Rattle.tally.specs.InBytes.{deal_in}
use Rattle.tally_bytes.proofs.reading.deal_in.Given as goal

abbrev pub invariant-loop-i : goal.invariant-loop-i
invariant-loop-i l = (length l.row ≡ 52) × (take l.i l.row ≡ take l.i (deal_in (slice 1 14 l.bytes)))
