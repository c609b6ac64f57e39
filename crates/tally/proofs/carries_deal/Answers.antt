-- `tally::carries_deal` meets its contract, by its test. Assumes nothing.
use Rattle.std.proofs.Common.{◌∙◌}
use Rattle.tally.proofs.Dealing.{carries-none, carries-deal}
use Rattle.tally.proofs.carries_deal.Goals as goal

pub returns-then-results-eq0 : goal.returns-then-results-eq0
returns-then-results-eq0 c = c.same_deal.ensures ∙ carries-none _ _ c.if-results-eq0.true

pub returns : goal.returns
returns c = c.is_ok.ensures.value ∙ carries-deal _ _ c.if-results-eq0.false _ c.take_places.ensures
