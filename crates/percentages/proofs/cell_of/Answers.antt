-- `percentages::cell_of` meets its contract, by what the call for the matchpoints answers. Assumes nothing.
use Rattle.std.proofs.Common.{sym, ap, ◌∙◌, arith}
use Rattle.std.proofs.lemmas.Result.{err_from_is_err_and}
use mathlib.Core.Path.{subst}
use mir.Facts.{to_z-of_z}
use Rattle.percentages.proofs.Told.{by_points, by_points_lem, Few, few}
use Rattle.percentages.proofs.cell_of.Goals as goal

pub returns-in_err-points : goal.returns-in_err-points
returns-in_err-points c =
    let p = err_from_is_err_and c.from_residual.result c.from_residual.ensures.1 in
    rw (p.1, p.2) (ap by_points (rw (to_z-of_z c.ranges.score) at c.in_err-points.ensures) ∙ by_points_lem c.args.t _)

pub overflow_cast-ns : goal.overflow_cast-ns
overflow_cast-ns c =
    let both = subst Few (sym (rw (to_z-of_z c.ranges.score) at c.in_ok-points.ensures)) (few c.args.t _) in
    record { fits = omega (arith, both) }

pub overflow_cast-points : goal.overflow_cast-points
overflow_cast-points c =
    let both = subst Few (sym (rw (to_z-of_z c.ranges.score) at c.in_ok-points.ensures)) (few c.args.t _) in
    record { fits = omega (arith, both) }

pub returns : goal.returns
returns c =
    rw c.results_of.ensures at c.cell_by.ensures
    ∙ (ap by_points (rw (to_z-of_z c.ranges.score) at c.in_ok-points.ensures) ∙ by_points_lem c.args.t _)
