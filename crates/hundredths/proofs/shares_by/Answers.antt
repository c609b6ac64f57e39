-- `shares_by` meets its contract. Assumes nothing.
use Rattle.hundredths.specs.Shares.{shares_by}
use Rattle.hundredths.proofs.shares_by.Goals as goal

pub returns : goal.returns
unfolding shares_by
returns c = rw (c.share.ensures, c.share-2.ensures, c.from.ensures, c.from-2.ensures)
