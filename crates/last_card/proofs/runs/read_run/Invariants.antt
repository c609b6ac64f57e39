-- `read_run` meets its contract: what is left of the run is all of it. Assumes nothing.
use Rattle.last_card.proofs.RunTurns.{Running}
use Rattle.last_card.proofs.runs.read_run.Given as goal

abbrev pub invariant-loop-place : goal.invariant-loop-place
invariant-loop-place l = Running l.bytes l.initial.play l.play l.at l.next l.place l.count
