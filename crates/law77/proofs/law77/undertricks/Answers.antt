-- `undertricks` meets its contract: the points of the first k. Assumes nothing.
use Rattle.std.proofs.Common.{◌<◌, ◌+◌, refl, arith, add-one, rules}
use Rattle.laws.specs.Law77 as Law
use Rattle.law77.proofs.Points.{undertrick_le, undertricks-le}
use Rattle.law77.specs.Scoring.{stake_of}
use Rattle.law77.proofs.law77.undertricks.Goals as goal

pub loop-k-init : goal.loop-k-init
unfolding Law.undertricks
loop-k-init c = refl

pub overflow_add-points : goal.overflow_add-points
overflow_add-points c =
    let l = c.loop-k in
    let s = stake_of c.args.s in
    let n : c.args.n < 4294967296 = search rules in
    record { fits = omega (arith, l.invariant, c.undertrick_value.ensures, undertricks-le s l.k, undertrick_le s (l.k + 1), n) }

pub loop-k-preserved : goal.loop-k-preserved
unfolding Law.undertricks
loop-k-preserved c =
    let l = c.loop-k in
    rw (l.invariant, c.undertrick_value.ensures, add-one l.k)
