-- `read_deal` meets its contract: a law of Dealing for each way out. Assumes nothing.
use Rattle.std.proofs.Common.{refl, arith}
use Rattle.last_card.proofs.Dealing.{deal-short, deal-uneven, deal-read}
use Rattle.last_card.proofs.reading.read_deal.Goals as goal

pub returns-then-bytes-lt15 : goal.returns-then-bytes-lt15
returns-then-bytes-lt15 c = rw c.at.ensures (deal-short _ c.if-bytes-lt15.true)

pub returns-in-Some : goal.returns-in-Some
returns-in-Some c =
    let k = c.in-Some.ensures in
    rw c.at-in-Some.ensures
    (deal-uneven _ c.if-bytes-lt15.false _ _ c.holders-row.ensures c.hands-hands.ensures _ k.first (λ z. omega (arith, k.seat)))

pub returns-in-None : goal.returns-in-None
returns-in-None c = deal-read _ c.if-bytes-lt15.false _ _ c.holders-row.ensures c.hands-hands.ensures _ c.in-None.ensures.first refl
