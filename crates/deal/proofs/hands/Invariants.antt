-- `deal::hands` meets its contract: the words are those of the places before `i`. Assumes nothing.
use Rattle.std.proofs.Common.{take}
use Rattle.deal.proofs.Built.{Built}
use Rattle.deal.proofs.hands.Given as goal

abbrev pub invariant-loop-i : goal.invariant-loop-i
invariant-loop-i l = Built l.words (take l.i l.fn.holders)
