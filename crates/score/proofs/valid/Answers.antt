-- `score::valid` meets its contract: the tests are the rule's. Assumes nothing.
use Rattle.std.proofs.Common.{rules}
use Rattle.laws.specs.Law77.{valid_score}
use Rattle.score.proofs.valid.Goals as goal

pub returns-then-size-le7600 : goal.returns-then-size-le7600
unfolding valid_score
returns-then-size-le7600 c = search rules

pub returns-else-size-le7600 : goal.returns-else-size-le7600
unfolding valid_score
returns-else-size-le7600 c = search rules
