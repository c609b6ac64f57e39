-- `penalty::Penalty::against_50c` meets its contract. Assumes nothing.
use borrow.Author.Tests.{le-leb, lt-leb}
use Rattle.penalty.specs.Position.{against_50c}
use Rattle.penalty.proofs.Penalty.against_50c.Goals as goal

pub returns-then-card-ge8 : goal.returns-then-card-ge8
unfolding against_50c
returns-then-card-ge8 c = simp (le-leb 8 _ c.if-card-ge8.true)

pub returns : goal.returns
unfolding against_50c
returns c =
    rw (
      c.meets.ensures,
      c.without-2.ensures,
      c.card_word.ensures,
      c.suit_word-suit.ensures,
      c.without.ensures,
      lt-leb 8 _ c.if-card-ge8.false,
    )
