-- `penalty::Penalty::against_50d1` meets its contract. Assumes nothing.
use Rattle.penalty.specs.Position.{against_50d1}
use Rattle.penalty.proofs.Marking.{due-other}
use Rattle.penalty.proofs.Penalty.against_50d1.Goals as goal

pub returns-then-meets : goal.returns-then-meets
returns-then-meets c = due-other _ _ _ c.obeying-obeying.ensures c.card_word-played.ensures c.meets.ensures c.if-meets.true c.meets-then-meets.ensures

pub returns : goal.returns
unfolding against_50d1
returns c = rw (← c.obeying-obeying.ensures, ← c.meets.ensures, c.if-meets.false)
