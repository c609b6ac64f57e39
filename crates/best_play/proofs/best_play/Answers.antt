-- `best_play` meets its contract. Assumes nothing.
use Rattle.std.proofs.Common.{arith}
use Rattle.best_play.proofs.Search.{best_past, best-value}
use Rattle.best_play.proofs.best_play.Goals as goal

pub returns-then-p-gt52 : goal.returns-then-p-gt52
returns-then-p-gt52 c = best_past _ _ c.if-p-gt52.true

pub returns : goal.returns
returns c = best-value _ _ (omega (arith, c.if-p-gt52.false)) c.value.ensures.told
