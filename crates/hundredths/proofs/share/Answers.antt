-- `share` meets its contract, by its test. Assumes nothing.
use borrow.Author.Tests.{eq-eqb, ne_eqb}
use Rattle.laws.specs.CellSheet.{hundredths}
use Rattle.hundredths.specs.Shares.{share_of}
use Rattle.hundredths.proofs.share.Goals as goal

pub returns-then-most-eq0 : goal.returns-then-most-eq0
unfolding share_of
returns-then-most-eq0 c = rw (eq-eqb _ _ c.if-most-eq0.true)

pub returns : goal.returns
unfolding share_of hundredths
returns c = rw (ne_eqb _ _ c.if-most-eq0.false, c.from.ensures, c.from-2.ensures, c.from-3.ensures)
