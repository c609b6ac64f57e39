-- `tally::well_formed` meets its contract. Assumes nothing.
use Rattle.std.proofs.Common.{◌∙◌}
use Rattle.tally.proofs.Checking.{is_checked}
use Rattle.tally.proofs.well_formed.Goals as goal

pub returns : goal.returns
returns c = c.is_ok.ensures.value ∙ is_checked _ _ c.check.ensures
