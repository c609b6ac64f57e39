-- `Auction::marked_verdict` meets its contract: a return for each case. Assumes nothing.
use borrow.Author.Rules.{rules}
use Rattle.auction.proofs.Steps.{mark_on_call, mark_on_above, mark_on_bid}
use Rattle.auction.proofs.Auction.marked_verdict.Goals as goal

pub returns-then-code-lt3 : goal.returns-then-code-lt3
returns-then-code-lt3 c = mark_on_call _ _ c.if-code-lt3.true

pub returns-then-code-self : goal.returns-then-code-self
returns-then-code-self c = mark_on_above _ _ c.if-code-self.true

pub returns : goal.returns
returns c = mark_on_bid _ _ (search rules) (search rules)
