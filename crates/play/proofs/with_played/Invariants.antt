-- `with_played` meets its contract: the places before `i` are changed. Assumes nothing.
use Rattle.play.proofs.Placed.{Passed}
use Rattle.play.proofs.with_played.Given as goal

abbrev pub invariant-loop-i : goal.invariant-loop-i
invariant-loop-i l = Passed l.card l.initial.holders l.holders l.i
