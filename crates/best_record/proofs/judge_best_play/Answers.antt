-- `judge_best_play` meets its contract. Assumes nothing.
use Rattle.std.proofs.Common.{ap}
use Rattle.laws.specs.BestRecord.{best_number}
use Rattle.best_record.proofs.judge_best_play.Goals as goal

pub returns-in-Ok : goal.returns-in-Ok
returns-in-Ok c = rw c.from.ensures (ap best_number c.in-Ok.ensures)

pub returns-in-Err : goal.returns-in-Err
returns-in-Err c = rw c.from-in-Err.ensures (ap best_number c.in-Err.ensures)
