-- `play::Play::tricks` meets its contract: the answers are filled in from the last trick on. The measure is `i`. Assumes nothing.
use Rattle.std.proofs.Common.{arith, refl}
use Rattle.play.specs.Told.{tricks_in}
use Rattle.play.proofs.Filling.{answers-many, fill_begins, fill_goes, fill_ends}
use Rattle.play.proofs.Play.tricks.Goals as goal

pub loop-i-init : goal.loop-i-init
loop-i-init c = fill_begins c.complete-count.ensures.most

pub overflow_add-east : goal.overflow_add-east
overflow_add-east c =
    let l = c.loop-i.invariant in
    omega (arith, l.small, l.most)

pub loop-i-preserved : goal.loop-i-preserved
loop-i-preserved c = fill_goes c.loop-i.invariant c.loop-i-test.true refl

pub overflow_sub-result : goal.overflow_sub-result
overflow_sub-result c =
    let p = c.args.self in
    omega (arith, c.loop-i.invariant.small, answers-many c.complete-count.result p.tricks p.low p.high)

pub returns : goal.returns
unfolding tricks_in
returns c =
    let p = c.args.self in
    rw (← c.complete-count.ensures.value)
    (fill_ends (answers-many c.complete-count.result p.tricks p.low p.high) c.loop-i.invariant c.loop-i-test.false)
