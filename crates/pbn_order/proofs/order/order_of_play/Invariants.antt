-- `pbn_order::order::order_of_play` meets its contract. The loop's invariant is `InPlay`. Assumes nothing.
use Rattle.std.proofs.Common.{◌*◌}
use Rattle.pbn_order.proofs.Ordered.{InPlay}
use Rattle.pbn_order.proofs.order.order_of_play.Given as goal

abbrev pub invariant-loop-trick : goal.invariant-loop-trick
invariant-loop-trick l = InPlay l.cards l.trump l.first l.order l.leader (4 * l.trick)
