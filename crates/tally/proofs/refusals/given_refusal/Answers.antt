-- `tally::refusals::given_refusal` meets its contract: the deal is taken, and what is said of it is what the rules say. Assumes nothing.
use Rattle.std.proofs.Common.{◌∙◌}
use mir.Facts.{to_z-of_z}
use Rattle.tally.proofs.Given.{dealt_as_given}
use Rattle.tally.proofs.refusals.given_refusal.Goals as goal

pub returns : goal.returns
returns c = rw (to_z-of_z c.ranges.score) at c.dealt_refusal.ensures ∙ dealt_as_given _ _ _ _ _ c.take.ensures
