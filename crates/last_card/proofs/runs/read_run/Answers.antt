-- `read_run` meets its contract: a card more, or the one that stops. Assumes nothing.
use Rattle.std.proofs.Common.{arith}
use Rattle.last_card.proofs.RunTurns.{running-begins, running-goes, running-stops, running-ends}
use Rattle.play.proofs.Taken.{as_taken, as_refused}
use Rattle.last_card.proofs.runs.read_run.Goals as goal

pub loop-place-init : goal.loop-place-init
loop-place-init c = running-begins _ _ _ _

pub overflow_add-next : goal.overflow_add-next
overflow_add-next c = omega (arith, c.loop-place.invariant.along)

pub returns-in-Err : goal.returns-in-Err
returns-in-Err c =
    running-stops _ _ _ _ c.loop-place.invariant c.loop-place-test.true c.code_ending-code.ensures (as_refused _ _ c.in-Err.ensures)

pub loop-place-preserved : goal.loop-place-preserved
loop-place-preserved c =
    running-goes _ _ _ _ c.loop-place.invariant c.loop-place-test.true c.code_ending-code.ensures (as_taken _ _ c.in-Ok.ensures c.play-play.ensures)

pub returns : goal.returns
returns c = running-ends _ _ _ _ c.loop-place.invariant c.loop-place-test.false c.loop-place.auto.place-end
