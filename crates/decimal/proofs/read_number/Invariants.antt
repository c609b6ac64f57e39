-- `decimal::read_number` meets its contract. The loop's invariant: what is read, and the bytes left to read, say what the whole says.
-- Assumes nothing.
use Prim.Native.Nat.{◌≤◌, ◌<◌}
use mathlib.Core.Path.{◌≡◌}
use lib.ListN.{length, drop}
use Rattle.decimal.specs.Numbers.{number_on}
use Rattle.decimal.proofs.Reading.{tens, onward}
use Rattle.decimal.proofs.read_number.Given as goal

abbrev pub invariant-loop-b : goal.invariant-loop-b
invariant-loop-b l = (length l.bytes ≤ 5) × (l.n < tens l.b-index) × (number_on l.bytes ≡ onward (drop l.b-index l.bytes) l.n)
