-- `pbn_order::order::winning_card` meets its contract. Assumes nothing.
use Rattle.pbn_order.proofs.TrickWon.{trump_a, trump_b, trump_c, trump_d, no_trump}
use Rattle.pbn_order.proofs.order.winning_card.Goals as goal

pub returns-then-d-trump : goal.returns-then-d-trump
returns-then-d-trump c = trump_d _ _ _ _ _ _ c.if-d-trump.true c.highest.ensures

pub returns-then-c-trump : goal.returns-then-c-trump
returns-then-c-trump c = trump_c _ _ _ _ _ _ c.if-d-trump.false c.if-c-trump.true c.highest-then-c-trump.ensures

pub returns-then-b-trump : goal.returns-then-b-trump
returns-then-b-trump c = trump_b _ _ _ _ _ _ c.if-d-trump.false c.if-c-trump.false c.if-b-trump.true c.highest-then-b-trump.ensures

pub returns-then-a-trump : goal.returns-then-a-trump
returns-then-a-trump c = trump_a _ _ _ _ _ _ c.if-d-trump.false c.if-c-trump.false c.if-b-trump.false c.if-a-trump.true c.highest-then-a-trump.ensures

pub returns : goal.returns
returns c = no_trump _ _ _ _ _ _ c.if-d-trump.false c.if-c-trump.false c.if-b-trump.false c.if-a-trump.false c.highest-led.ensures
