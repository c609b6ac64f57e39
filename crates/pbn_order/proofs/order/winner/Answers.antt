-- `pbn_order::order::winner` meets its contract. Assumes nothing.
use Rattle.pbn_order.proofs.TrickWon.{won_a, won_b, won_c, won_d}
use native.Mathlib.Omega.{arith}
use Rattle.pbn_order.proofs.order.winner.Goals as goal

pub returns-then-d-card : goal.returns-then-d-card
returns-then-d-card c = (won_d _ _ _ _ _ _ _ c.winning_card-card.ensures c.if-d-card.true, omega arith)

pub returns-then-c-card : goal.returns-then-c-card
returns-then-c-card c = (won_c _ _ _ _ _ _ _ c.winning_card-card.ensures c.if-d-card.false c.if-c-card.true, omega arith)

pub returns-then-b-card : goal.returns-then-b-card
returns-then-b-card c = (won_b _ _ _ _ _ _ _ c.winning_card-card.ensures c.if-d-card.false c.if-c-card.false c.if-b-card.true, omega arith)

pub returns : goal.returns
returns c =
    let low = c.requires in
    (won_a _ _ _ _ _ _ _ c.winning_card-card.ensures low c.if-d-card.false c.if-c-card.false c.if-b-card.false, low)
