-- `pbn_order::order::highest` meets its contract. Assumes nothing.
use Rattle.pbn_order.proofs.TrickWon.{highest-is}
use Rattle.pbn_order.proofs.order.highest.Goals as goal

pub returns : goal.returns
returns c = highest-is _ _ _ _ _ _ _ _ _ c.higher-first.ensures c.higher-second.ensures c.higher-third.ensures c.higher.ensures
