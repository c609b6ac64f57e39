-- `score` meets its contract. Assumes nothing.
use Rattle.law77.specs.Scoring.{stake_of}
use Rattle.judgement.proofs.Settling.{read_small}
use Rattle.explanation.proofs.Granting.{score-small}
use Rattle.explanation.proofs.slip.score.Goals as goal

pub from_ns-requires : goal.from_ns-requires
from_ns-requires c =
    rw (read_small c.declarer_score.result c.declarer_score.ensures.1, c.declarer_score.ensures.0)
    (score-small c.args.p.declarer (stake_of c.args.p.stake) c.args.p.tricks c.args.p.possible)
