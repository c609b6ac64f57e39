-- `take_run` meets its contract: a card more, or the one that stops. Assumes nothing.
use Rattle.contents.proofs.RunTurns.{running-begins, running-goes, running-stops, running-ends}
use Rattle.play.proofs.Taken.{as_taken, as_refused}
use Rattle.contents.proofs.runs.take_run.Goals as goal

pub loop-place-init : goal.loop-place-init
loop-place-init c = running-begins _ _

pub returns-in-Err : goal.returns-in-Err
returns-in-Err c = running-stops _ _ c.loop-place.invariant c.loop-place-test.true (as_refused _ _ c.in-Err.ensures)

pub loop-place-preserved : goal.loop-place-preserved
loop-place-preserved c = running-goes _ _ c.loop-place.invariant c.loop-place-test.true (as_taken _ _ c.in-Ok.ensures c.play-play.ensures)

pub returns : goal.returns
returns c = running-ends _ _ c.loop-place.invariant c.loop-place-test.false c.loop-place.auto.place-end
