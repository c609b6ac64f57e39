-- `matchpoints::points::standing_of` meets its contract. The loop's invariant: what is counted, and what the places from `i` on hold, are together the whole.
-- Assumes nothing.
use Rattle.matchpoints.proofs.Comparing.{Stood}
use Rattle.matchpoints.proofs.points.standing_of.Given as goal

abbrev pub invariant-loop-i : goal.invariant-loop-i
invariant-loop-i l = Stood l.t l.score l.lower l.same l.results l.i
