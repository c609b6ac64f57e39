-- What an answer for the totals stands for determines it. Assumes nothing.
use mathlib.Core.Path.{◌≡◌, ap, ap₂}
use lib.IntN.{ℤ}
use Rattle.laws.specs.Refusals.{Answer, refused, answered}
use Rattle.laws.specs.TeamMatch.{Totals}
use Rattle.std.specs.Prelude.{Result, Ok, Err}
use Rattle.laws.specs.Refused.{number}
use Rattle.laws.specs.declared.Refusal.{Refusal}
use Rattle.laws.proofs.NamedBack.{one_refusal}
use Rattle.team_match.specs.declared.BothTotals.{BothTotals}
use Rattle.team_match.specs.Matches.{totals_answer}

same-totals : (a b : Totals) → answered a ≡ answered b → a ≡ b
same-totals a b e = cc

same-number : (x y : Refusal) → ◌≡◌ {A = Answer Totals} (refused (number x)) (refused (number y)) → number x ≡ number y
same-number x y e = cc

pub one_totals : (r s : Result BothTotals Refusal) → totals_answer r ≡ totals_answer s → r ≡ s
one_totals (Err x) (Err y) e = ap (λ (z : Refusal). Err z) (one_refusal x y (same-number x y e))
one_totals (Err x) (Ok b) e = cc
one_totals (Ok a) (Err y) e = cc
one_totals (Ok a) (Ok b) e =
    let q = same-totals _ _ e in
    ap₂ (λ (f g : ℤ). Ok (record { first = record { 0 = f }; second = record { 0 = g } })) (ap (λ (t : Totals). t.first) q) (ap (λ (t : Totals). t.second) q)
