-- What an answer stands for determines the answer. Assumes nothing.
use Prim.Native.Nat.{ℕ}
use mathlib.Core.Path.{◌≡◌, refl, ap}
use lib.IntN.{ℤ}
use Rattle.laws.specs.Refusals.{Answer, refused, answered}
use Rattle.laws.specs.Fitting.{fits}
use Rattle.std.specs.Prelude.{Result, Ok, Err, Option, Some, None}
use Rattle.laws.specs.declared.Refusal.{Refusal}
use Rattle.laws.specs.Refused.{number}
use Rattle.score.specs.declared.Imps.{Imps}
use Rattle.score.specs.declared.Matchpoints.{Matchpoints}
use Rattle.score.specs.Units.{imp_answer, imp_sum, matchpoint_sum}
use Rattle.laws.proofs.NamedBack.{one_refusal}

-- the values within
module _ {A : Type 0} where
  same-value : (a b : A) → answered a ≡ answered b → a ≡ b
  same-value a b e = cc

  same_sum : (a b : A) → fits a ≡ fits b → a ≡ b
  same_sum a b e = cc

same-number : (x y : Refusal) → ◌≡◌ {A = Answer ℤ} (refused (number x)) (refused (number y)) → number x ≡ number y
same-number x y e = cc

pub one_answer : (r s : Result Imps Refusal) → imp_answer r ≡ imp_answer s → r ≡ s
one_answer (Err x) (Err y) e = ap (λ (z : Refusal). Err z) (one_refusal x y (same-number x y e))
one_answer (Err x) (Ok j) e = cc
one_answer (Ok i) (Err y) e = cc
one_answer (Ok i) (Ok j) e = ap (λ (z : ℤ). Ok (record { 0 = z })) (same-value i.0 j.0 e)

pub one_imp_sum : (r s : Option Imps) → imp_sum r ≡ imp_sum s → r ≡ s
one_imp_sum (Some i) (Some j) e = ap (λ (z : ℤ). Some (record { 0 = z })) (same_sum i.0 j.0 e)
one_imp_sum (Some i) None e = cc
one_imp_sum None (Some j) e = cc
one_imp_sum None None e = refl

pub one_matchpoint_sum : (r s : Option Matchpoints) → matchpoint_sum r ≡ matchpoint_sum s → r ≡ s
one_matchpoint_sum (Some m) (Some n) e = ap (λ (z : ℕ). Some (record { 0 = z })) (same_sum m.0 n.0 e)
one_matchpoint_sum (Some m) None e = cc
one_matchpoint_sum None (Some n) e = cc
one_matchpoint_sum None None e = refl
