-- `check_plays` meets its contract: the number of cards, and each play. Assumes nothing.
use Rattle.std.proofs.Common.{◌∙◌, arith}
use Rattle.contents.proofs.Called.{few-cards, cards-over, cards-counted}
use Rattle.contents.proofs.plays.check_plays.Goals as goal

pub returns-then-most_cards-cards : goal.returns-then-most_cards-cards
returns-then-most_cards-cards c =
    rw (c.at.ensures, c.min.ensures, c.requires)
    (cards-over _ _ _ _ _ (rw (c.most_cards.ensures, c.requires) at c.if-most_cards-cards.true))

pub overflow_cast-cards : goal.overflow_cast-cards
overflow_cast-cards c = omega (arith, few-cards c.args.out _ (rw c.most_cards.ensures at c.if-most_cards-cards.false))

pub returns : goal.returns
returns c = c.check_each.ensures ∙ cards-counted _ _ _ _ _ (rw (c.most_cards.ensures, c.requires) at c.if-most_cards-cards.false)
