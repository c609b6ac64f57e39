-- `read_no_claim` meets its contract: a law of Claiming for each way out. Assumes nothing.
use Rattle.std.proofs.Common.{[]}
use Rattle.judgement.proofs.Claiming.{unfinished, complete, passed}
use Rattle.judgement.proofs.claim.read_no_claim.Goals as goal

pub returns-then-played-ne52 : goal.returns-then-played-ne52
returns-then-played-ne52 c = rw (c.at.ensures, c.from.ensures) (unfinished _ _ [] _ c.if-not-out.true c.if-played-ne52.true)

pub returns-else-played-ne52 : goal.returns-else-played-ne52
returns-else-played-ne52 c = complete _ _ [] _ c.if-played-ne52.false

pub returns-else-not-out : goal.returns-else-not-out
returns-else-not-out c = passed _ _ [] _ c.if-not-out.false
