-- `packing::store_last` meets its contract: no store, one or two. Assumes nothing.
use Rattle.std.proofs.Common.{arith, refl}
use Rattle.packing.proofs.Storing.{stored_none, stored_one, stored_two}
use Rattle.packing.proofs.store_last.Goals as goal

pub returns-then-bytes-eq0-clause-out_after : goal.returns-then-bytes-eq0-clause-out_after
returns-then-bytes-eq0-clause-out_after c = (stored_none c.args.out.now c.args.at c.args.number c.if-bytes-eq0.true).1

pub returns-then-bytes-eq1-clause-out_after : goal.returns-then-bytes-eq1-clause-out_after
returns-then-bytes-eq1-clause-out_after c =
    (stored_one _ _ c.args.number c.if-bytes-eq1.true refl c.store.ensures.value c.store.ensures.out_after).1

pub returns-clause-out_after : goal.returns-clause-out_after
returns-clause-out_after c =
    (stored_two _ _ c.args.number (omega arith) refl refl c.store-next.ensures.value c.store-next.ensures.out_after
    c.store-2.ensures.value c.store-2.ensures.out_after).1
