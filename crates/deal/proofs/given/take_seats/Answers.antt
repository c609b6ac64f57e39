-- `take_seats` meets its contract: a seat without thirteen cards, or none. Assumes nothing.
use Rattle.std.proofs.Common.{arith, refl}
use Rattle.deal.proofs.Taking.{deal-uneven, deal-taken}
use Rattle.deal.proofs.given.take_seats.Goals as goal

pub returns-in-Some : goal.returns-in-Some
returns-in-Some c =
    let k = c.in-Some.ensures in
    rw c.at.ensures (deal-uneven _ c.requires _ c.hands-hands.ensures _ k.first (λ z. omega (arith, k.seat)))

pub returns-in-None : goal.returns-in-None
returns-in-None c = deal-taken _ c.requires _ c.hands-hands.ensures _ c.in-None.ensures.first refl
