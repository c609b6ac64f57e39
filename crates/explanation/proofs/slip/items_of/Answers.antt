-- `items_of` meets its contract. Assumes nothing.
use borrow.Author.Tests.{lt-leb, le-leb}
use Rattle.laws.specs.Law77.{is_made}
use Rattle.explanation.proofs.slip.items_of.Goals as goal

pub items_down-requires : goal.items_down-requires
unfolding is_made
items_down-requires c = lt-leb _ _ c.if-p.true

pub items_made-requires : goal.items_made-requires
unfolding is_made
items_made-requires c = le-leb _ _ c.if-p.false
