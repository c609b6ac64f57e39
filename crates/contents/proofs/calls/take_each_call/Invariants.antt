-- `take_each_call` meets its contract: what the checks come to from a turn on is what they come to in all. Assumes nothing.
use Rattle.contents.proofs.CallTurns.{CallsAt}
use Rattle.contents.proofs.calls.take_each_call.Given as goal

abbrev pub invariant-loop-i : goal.invariant-loop-i
invariant-loop-i l = CallsAt l.calls l.dealer l.auction l.i
