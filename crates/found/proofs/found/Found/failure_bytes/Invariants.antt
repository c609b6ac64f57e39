-- `found::found::Found::failure_bytes` meets its contract: the bytes are filled in from the last play on. The measure is `i`. Assumes nothing.
use Rattle.found.proofs.Filling.{Filled}
use Rattle.found.proofs.found.Found.failure_bytes.Given as goal

abbrev pub invariant-loop-i : goal.invariant-loop-i
invariant-loop-i l = Filled l.initial.i l.initial.words l.bytes l.words l.i
