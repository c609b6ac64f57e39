-- `Play::tricks` meets its contract: the answers are filled in from the last trick on. Assumes nothing.
use Rattle.play.specs.Told.{answers_in}
use Rattle.play.proofs.Filling.{Filled}
use Rattle.play.proofs.Play.tricks.Given as goal

abbrev pub invariant-loop-i : goal.invariant-loop-i
invariant-loop-i l = Filled (answers_in l.count l.initial.rest l.initial.low l.initial.high) l.answers l.rest l.low l.high l.east l.i
