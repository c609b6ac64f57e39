-- `matchpoints::points::matchpoints` meets its contract: one law of `Comparing` for each way out. Assumes nothing.
use Rattle.std.proofs.Common.{◌∙◌}
use Rattle.std.proofs.lemmas.Result.{err_from_is_err_and}
use mir.Facts.{to_z-of_z}
use Rattle.tally.proofs.Refusing.{as-refused, as-given}
use Rattle.tally.proofs.Checking.{checked}
use Rattle.matchpoints.proofs.Comparing.{points_malformed, points-refused, score-valid, points-asked}
use Rattle.matchpoints.proofs.points.matchpoints.Goals as goal

pub returns-in_err-x : goal.returns-in_err-x
returns-in_err-x c =
    let p = err_from_is_err_and c.from_residual.result c.from_residual.ensures.1 in
    rw (p.1, p.2) (points_malformed _ _ _ c.in_err-x.ensures)

pub returns-in_err-given_refusal : goal.returns-in_err-given_refusal
returns-in_err-given_refusal c =
    let p = err_from_is_err_and c.from_residual-in_err-given_refusal.result c.from_residual-in_err-given_refusal.ensures.1 in
    rw (p.1, p.2) (points-refused _ _ _ c.in_ok-x.ensures _ (as-refused _ _ _ (rw (to_z-of_z c.ranges.score) at c.in_err-given_refusal.ensures)))

pub points_in-requires : goal.points_in-requires
points_in-requires c =
    let g = as-given _ _ _ (rw (to_z-of_z c.ranges.score) at c.in_ok-given_refusal.ensures) in
    ((checked _ _ c.in_ok-x.ensures).0, rw (to_z-of_z c.ranges.score) (score-valid _ _ _ c.in_ok-x.ensures g.0))

pub returns : goal.returns
returns c =
    let g = as-given _ _ _ (rw (to_z-of_z c.ranges.score) at c.in_ok-given_refusal.ensures) in
    rw (to_z-of_z c.ranges.score) at c.points_in.ensures ∙ points-asked _ _ _ c.in_ok-x.ensures g.0
