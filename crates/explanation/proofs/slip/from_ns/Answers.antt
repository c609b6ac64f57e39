-- `from_ns` meets its contract: a small score does not wrap, and its 16 bits hold it. Assumes nothing.
use native.Mathlib.Omega.{arith}
use mathlib.Core.Path.{◌≡◌, ◌∙◌}
use lib.IntN.{nat_abs}
use mir.Syntax.{w64}
use mir.Val.{to_z, of_z}
use Prim.Native.Nat.{◌<◌}
use Rattle.laws.specs.Law77.{ns_score}
use Rattle.judgement.proofs.Settling.{read_small, ns_told, ns_small}
use Rattle.explanation.proofs.Granting.{fits_16, told, ns-small}
use Rattle.explanation.proofs.slip.from_ns.Goals as goal

-- the score in 64 bits is the score from North-South
whole : (c : goal.After-ns_score) → to_z w64 (of_z w64 c.ns_score.result) ≡ ns_score c.args.declarer c.args.score
whole c =
    let d = c.args.declarer in
    let z = c.args.score in
    let h : nat_abs z < 10000000000000 = omega (arith, c.requires) in
    read_small c.ns_score.result (ns_small d z h c.ns_score.ensures) ∙ ns_told d z h c.ns_score.ensures

pub overflow_cast-result : goal.overflow_cast-result
overflow_cast-result c = rw (whole c) (fits_16 (ns_score c.args.declarer c.args.score) (ns-small c.args.declarer c.args.score c.requires))

pub returns : goal.returns
returns c = told (whole c) (ns-small c.args.declarer c.args.score c.requires)
