-- `pbn_order::order::order_of_play` meets its contract. The loop's invariant is `InPlay`. Assumes nothing.
use Rattle.std.proofs.Common.{◌≡◌, ◌+◌, ◌*◌, arith}
use Rattle.laws.specs.Cards.{clockwise}
use Rattle.pbn_order.proofs.Ordered.{turn, ends}
use Rattle.pbn_order.proofs.order.order_of_play.Goals as goal

pub loop-trick-preserved : goal.loop-trick-preserved
unfolding clockwise
loop-trick-preserved c =
    let w = c.winner-leader.ensures in
    let next : 4 * (c.loop-trick.trick + 1) ≡ 4 * c.loop-trick.trick + 4 = omega arith in
    rw next
    (turn _ _ _ _ _ _ c.loop-trick.invariant (omega arith) _ _ _ _ c.places_to.ensures c.places_to-in-loop-trick.ensures
    c.places_to-in-loop-trick-2.ensures
    c.places_to-in-loop-trick-3.ensures _ w.0 w.1)

pub returns : goal.returns
returns c = ends _ _ _ _ _ _ c.loop-trick.invariant (λ h. omega arith)
