-- `score::add_imps` meets its contract: the sum fits exactly where it is a number of 32 bits. Assumes nothing.
use Rattle.std.proofs.Common.{◌∙◌, ap, rules}
use mir.Syntax.{w32}
use mir.Val.{SFits}
use mir.Facts.{to_z-of_z}
use Rattle.score.specs.Units.{imp_sum}
use Rattle.score.proofs.Sums.{imps_held, imps-over}
use Rattle.score.proofs.add_imps.Goals as goal

pub returns-in_err-checked_add : goal.returns-in_err-checked_add
returns-in_err-checked_add c =
    let f : SFits w32 c.args.a.0 = search rules in
    let g : SFits w32 c.args.b.0 = search rules in
    ap imp_sum c.from_residual.ensures ∙ imps-over c.args.a.0 c.args.b.0 (rw (to_z-of_z f, to_z-of_z g) at (c.in_err-checked_add.ensures))

pub returns : goal.returns
returns c =
    let f : SFits w32 c.args.a.0 = search rules in
    let g : SFits w32 c.args.b.0 = search rules in
    let e = rw (to_z-of_z f, to_z-of_z g) at (c.in_ok-checked_add.ensures) in
    rw (e.1, to_z-of_z e.0) (imps_held c.args.a.0 c.args.b.0 e.0)
