-- What an answer to a result stands for determines the answer. Assumes nothing.
use Prim.Native.Nat.{ℕ}
use mathlib.Core.Path.{◌≡◌, ap, ap₂}
use Rattle.std.specs.Prelude.{Result, Ok, Err}
use Rattle.laws.specs.Refusals.{given}
use Rattle.laws.specs.Law78.{Points}
use Rattle.laws.specs.declared.Refused.{Refused}
use Rattle.laws.proofs.NamedBack.{one_place}
use Rattle.matchpoints.specs.declared.points.BothSides.{BothSides}
use Rattle.matchpoints.specs.Points.{points_answer}

-- the two numbers within
pub same-ns : (p q : Points) → given p ≡ given q → p.ns ≡ q.ns
same-ns p q e = cc

pub same-ew : (p q : Points) → given p ≡ given q → p.ew ≡ q.ew
same-ew p q e = cc

pub one_answer : (r s : Result BothSides Refused) → points_answer r ≡ points_answer s → r ≡ s
one_answer (Err x) (Err y) e = ap (λ (z : Refused). Err z) (one_place x y e)
one_answer (Err x) (Ok q) e = cc
one_answer (Ok p) (Err y) e = cc
one_answer (Ok p) (Ok q) e =
    ap₂ (λ (x y : ℕ). Ok (record { ns = record { 0 = x }; ew = record { 0 = y } })) (same-ns _ _ e) (same-ew _ _ e)
