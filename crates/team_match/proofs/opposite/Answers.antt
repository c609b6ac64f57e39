-- `team_match::opposite` meets its contract: a state's total is small, so its negation fits. Assumes nothing.
use native.Mathlib.Omega.{arith}
use lib.IntN.{ℤ, pos, neg_ℤ, ◌-ℤ◌, +ℤ_idl}
use mathlib.Core.Path.{◌≡◌}
use mir.Syntax.{w32}
use mir.Val.{SFits, to_z, of_z}
use mir.Facts.{to_z-of_z}
use Rattle.laws.proofs.Integers.{size_neg, mag-le-size}
use Rattle.team_match.proofs.States.{parts}
use Rattle.team_match.proofs.opposite.Goals.{After-struct_told-1}
use Rattle.team_match.proofs.opposite.Goals as goal

-- the total turned about
turned : (z : ℤ) → SFits w32 z → pos 0 -ℤ to_z w32 (of_z w32 z) ≡ neg_ℤ z
turned z f = rw (to_z-of_z f, +ℤ_idl)

negation-fits : (c : After-struct_told-1) → SFits w32 (neg_ℤ c.args.m.total.0)
negation-fits c =
    let z = c.args.m.total.0 in
    let p = parts c.args.m c.requires in
    record { sfits = omega (arith, mag-le-size (neg_ℤ z), size_neg z, p.small, p.room) }

fitting : (c : After-struct_told-1) → SFits w32 c.args.m.total.0
fitting c = record { sfits = c.struct_told-1.given.0.1 }

pub overflow_sub-result : goal.overflow_sub-result
overflow_sub-result c = rw (turned _ (fitting c)) (negation-fits c)

pub returns : goal.returns
returns c = rw (turned _ (fitting c)) (to_z-of_z (negation-fits c))
