-- `Auction::may_double` meets its contract. Assumes nothing.
use borrow.Author.Rules.{rules}
use Rattle.auction.proofs.Steps.{may_stand, may_not}
use Rattle.auction.proofs.Auction.may_double.Goals as goal

pub returns-then-self-code : goal.returns-then-self-code
returns-then-self-code c = may_stand _ _ (search rules) (search rules) c.if-self-code.true

pub returns : goal.returns
returns c = may_not _ _ (search rules) (search rules) c.if-self-code.false
