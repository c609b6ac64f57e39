-- The loop's invariant: the run so far, with the bytes from the next one on, ends as the whole does. Assumes nothing.
use Rattle.std.proofs.Common.{◌≡◌, drop}
use Rattle.tree_print.specs.Printing.{fed_of}
use Rattle.tree_print.proofs.feed.Given as goal

abbrev pub invariant-loop-b : goal.invariant-loop-b
invariant-loop-b g l = fed_of l.fn.run l.bytes ≡ fed_of l.r (drop l.b-index l.bytes)
