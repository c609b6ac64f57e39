-- `check_unclaimed` meets its contract. Assumes nothing.
use Rattle.contents.proofs.Checks.{passed, unfinished, complete}
use Rattle.contents.proofs.sections.check_unclaimed.Goals as goal

pub returns-then-out : goal.returns-then-out
returns-then-out c = passed _ _ c.if-out.true

pub returns-then-played-ne52 : goal.returns-then-played-ne52
returns-then-played-ne52 c = rw (c.at.ensures, c.from.ensures) (unfinished _ _ c.if-out.false c.if-played-ne52.true)

pub returns : goal.returns
returns c = complete _ _ c.if-out.false c.if-played-ne52.false
