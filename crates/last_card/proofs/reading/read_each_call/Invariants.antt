-- `read_each_call` meets its contract: what the reading comes to from a turn on is what it comes to in all. Assumes nothing.
use Rattle.last_card.proofs.CallTurns.{CallsAt}
use Rattle.last_card.proofs.reading.read_each_call.Given as goal

abbrev pub invariant-loop-i : goal.invariant-loop-i
invariant-loop-i l = CallsAt l.bytes l.dealer l.at l.count l.auction l.next l.i
