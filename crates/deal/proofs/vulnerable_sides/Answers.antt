-- `vulnerable_sides` meets its contract: by the table. Assumes nothing.
use Rattle.deal.proofs.Sides.{sides_at}
use Rattle.deal.proofs.vulnerable_sides.Goals as goal

pub returns : goal.returns
returns c = sides_at _ _ c.saturating_sub.ensures
