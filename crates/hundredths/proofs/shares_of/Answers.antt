-- `shares_of` meets its contract, by what the call for the matchpoints answers. Assumes nothing.
use Rattle.std.proofs.Common.{sym, ap, ◌∙◌, arith}
use Rattle.std.proofs.lemmas.Result.{err_from_is_err_and}
use mathlib.Core.Path.{subst}
use mir.Facts.{to_z-of_z}
use Rattle.percentages.proofs.Told.{Few, few}
use Rattle.hundredths.proofs.Told.{by_points, by_points_lem}
use Rattle.hundredths.proofs.shares_of.Goals as goal

pub returns-in_err-points : goal.returns-in_err-points
returns-in_err-points c =
    let p = err_from_is_err_and c.from_residual.result c.from_residual.ensures.1 in
    rw (p.1, p.2) (ap by_points (rw (to_z-of_z c.ranges.score) at c.in_err-points.ensures) ∙ by_points_lem c.args.t _)

pub overflow_cast-points : goal.overflow_cast-points
overflow_cast-points c =
    let both = subst Few (sym (rw (to_z-of_z c.ranges.score) at c.in_ok-points.ensures)) (few c.args.t _) in
    record { fits = omega (arith, both) }

pub overflow_cast-points-2 : goal.overflow_cast-points-2
overflow_cast-points-2 c =
    let both = subst Few (sym (rw (to_z-of_z c.ranges.score) at c.in_ok-points.ensures)) (few c.args.t _) in
    record { fits = omega (arith, both) }

pub returns : goal.returns
returns c = c.shares_by.ensures ∙ (ap by_points (rw (to_z-of_z c.ranges.score) at c.in_ok-points.ensures) ∙ by_points_lem c.args.t _)
