-- `take_run` meets its contract: what is left of the run is all of it. Assumes nothing.
use Rattle.contents.proofs.RunTurns.{Running}
use Rattle.contents.proofs.runs.take_run.Given as goal

abbrev pub invariant-loop-place : goal.invariant-loop-place
invariant-loop-place l = Running l.plays l.initial.play l.play l.place
