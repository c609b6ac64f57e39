-- `entered` meets its contract. Assumes nothing.
use native.Mathlib.Omega.{arith}
use Rattle.auction.specs.Position.{entered}
use Rattle.auction.proofs.Bounds.{none_lost}
use Rattle.auction.proofs.entered.Goals as goal

pub returns : goal.returns
unfolding entered
returns c =
    let a = c.args in
    rw (none_lost c.is_free-free.result a.seat a.place.at c.is_free-free.ensures.bound (omega arith), c.is_free-free.ensures.value, c.entry.ensures.value)
