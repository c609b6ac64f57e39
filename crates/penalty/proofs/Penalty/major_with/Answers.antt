-- `penalty::Penalty::major_with` meets its contract. Assumes nothing.
use borrow.Author.Tests.{le-leb, lt-leb}
use Rattle.penalty.specs.Position.{major_with}
use Rattle.penalty.proofs.Marking.{all_shown}
use Rattle.penalty.proofs.Penalty.major_with.Goals as goal

pub returns-then-meets : goal.returns-then-meets
returns-then-meets c = all_shown _ _ _ _ c.card_word-shown.ensures c.meets.ensures c.if-meets.true

pub returns-then-deliberate : goal.returns-then-deliberate
unfolding major_with
returns-then-deliberate c = rw (← c.card_word-shown.ensures, ← c.meets.ensures, c.if-meets.false, c.if-deliberate.true)

pub returns-then-card-ge8 : goal.returns-then-card-ge8
unfolding major_with
returns-then-card-ge8 c = rw (← c.card_word-shown.ensures, ← c.meets.ensures, c.if-meets.false, c.if-deliberate.false, le-leb 8 _ c.if-card-ge8.true)

pub returns : goal.returns
unfolding major_with
returns c = rw (← c.meets.ensures, c.if-meets.false, c.if-deliberate.false, lt-leb 8 _ c.if-card-ge8.false)
