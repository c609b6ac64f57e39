-- `tally::refusals::kept_deal` meets its contract, by its test. Assumes nothing.
use borrow.Author.Tests.{eq-eqb, ne_eqb}
use Rattle.tally.specs.Steps.{kept_deal}
use Rattle.tally.proofs.refusals.kept_deal.Goals as goal

pub returns-then-results-eq0 : goal.returns-then-results-eq0
unfolding kept_deal
returns-then-results-eq0 c = rw (eq-eqb _ _ c.if-results-eq0.true)

pub returns-else-results-eq0 : goal.returns-else-results-eq0
unfolding kept_deal
returns-else-results-eq0 c = rw (ne_eqb _ _ c.if-results-eq0.false)
