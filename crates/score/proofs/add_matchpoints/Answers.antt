-- `score::add_matchpoints` meets its contract: the sum fits exactly where it is below 2^32. Assumes nothing.
use Rattle.std.proofs.Common.{◌∙◌, ap}
use Rattle.score.specs.Units.{matchpoint_sum}
use Rattle.score.proofs.Sums.{matchpoints_held, matchpoints-over}
use Rattle.score.proofs.add_matchpoints.Goals as goal

pub returns-in_err-checked_add : goal.returns-in_err-checked_add
returns-in_err-checked_add c = ap matchpoint_sum c.from_residual.ensures ∙ matchpoints-over _ _ (c.in_err-checked_add.ensures)

pub returns : goal.returns
returns c =
    let e = c.in_ok-checked_add.ensures in
    rw (e.1) (matchpoints_held c.args.a.0 c.args.b.0 e.0)
