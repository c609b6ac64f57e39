-- What is promised of IMPs, proved. Assumes nothing.
use Prim.Native.Nat.{ℕ, zero, suc, ◌≤◌, ◌<◌, ◌+◌}
use native.Mathlib.Omega.{arith}
use mathlib.Core.Path.{◌≡◌, refl, sym, ap, ◌∙◌}
use mathlib.Core.Logic.{◌⊎◌, inl, inr, ⊎_elim}
use mathlib.Core.Bool.{true, false}
use lib.IntN.{ℤ, pos, negsuc, neg_ℤ, nat_abs, ◌-ℤ◌}
use Rattle.laws.specs.Refusals.{Answer, refused, answered, invalid_score}
use Rattle.laws.specs.Law77.{valid_score}
use Rattle.laws.specs.Law78.{lower_end, imps_for_size, imps_of, imps, opposite}
use Rattle.laws.proofs.Integers.{swap_difference}
use Rattle.laws.proofs.Scale as scale
use Rattle.laws.proofs.Tests.{by_test}
use Rattle.std.specs.Prelude as Std
use Rattle.laws.specs.declared.Refusal.{Refusal}
use Rattle.score.specs.declared.Imps.{Imps}
use Rattle.score.specs.Units.{imp_answer}
use Rattle.score.proofs.Told.{one_answer}
use Rattle.promises_tallies.specs.Demand2Imps.{EitherInvalid, BothValid, OfImps, Scale, Demand2Imps}

module _ (a b : ℤ) where
  invalid : EitherInvalid a b → imps a b ≡ refused invalid_score
  invalid e =
      ⊎_elim
      (scale.not_first a b)
      (λ (q : valid_score b ≡ false).
      by_test (valid_score a)
      (λ (p : valid_score a ≡ true). scale.not-second a b p q)
      (scale.not_first a b))
      e

  by_number : (n m : ℕ) → ◌≡◌ {A = Answer ℤ} (refused m) (refused n) → n ≡ m
  by_number n m e = cc

  not-refused : (n : ℕ) (z : ℤ) → answered z ≡ refused n → ⊥
  not-refused n z e = let k : ◌≡◌ {A = ℕ} 0 1 = cc in omega arith

  only_invalid : (n : ℕ) → imps a b ≡ refused n → (n ≡ invalid_score) × EitherInvalid a b
  only_invalid n e =
      by_test (valid_score a)
      (λ (p : valid_score a ≡ true).
      by_test (valid_score b)
      (λ (q : valid_score b ≡ true). absurd (not-refused n _ (sym (scale.both_valid_lem a b p q) ∙ e)))
      (λ (q : valid_score b ≡ false). (by_number n invalid_score (sym (scale.not-second a b p q) ∙ e), inr q)))
      (λ (p : valid_score a ≡ false). (by_number n invalid_score (sym (scale.not_first a b p) ∙ e), inl p))

  -- a difference is positive one way or the other
  one_way : (z : ℤ) → a -ℤ b ≡ z → (a -ℤ b ≡ pos (nat_abs z)) ⊎ (b -ℤ a ≡ pos (nat_abs z))
  one_way (pos n) e = inl e
  one_way (negsuc n) e = inr (swap_difference a b ∙ ap neg_ℤ e)

of_imps : (a b : ℤ) (r : Std.Result Imps Refusal) → imp_answer r ≡ imps a b → OfImps a b r
of_imps a b r e =
    record {
      refuses = λ i. e ∙ invalid a b i;
      refuses_only = λ n q. only_invalid a b n (sym e ∙ q);
      above = λ size v d. e ∙ scale.gained a b size v.one v.two (sym d);
      below = λ size v d. e ∙ scale.lost a b size v.one v.two (sym d);
      size = nat_abs (a -ℤ b);
      either = one_way a b (a -ℤ b) refl;
      swapped = λ s q. q ∙ scale.imps-swapped a b ∙ ap opposite (sym e);
    }

none : (size : ℕ) → size < lower_end 1 → imps_for_size size ≡ 0
none size h = omega (arith, scale.falls-short 1 size (omega arith) (omega arith) h)

between : (k size : ℕ) → 1 ≤ k → k < 24 → lower_end k ≤ size → size < lower_end (k + 1) → imps_for_size size ≡ k
between k size from to low high =
    omega (arith, scale.reaches k size from (omega arith) low, scale.falls-short (k + 1) size (omega arith) (omega arith) high)

most : (size : ℕ) → lower_end 24 ≤ size → imps_for_size size ≡ 24
most size h = omega (arith, scale.reaches 24 size (omega arith) (omega arith) h, scale.at_most_24 size)

of-scale : Scale
of-scale =
    record { entries = scale.all_24; rises = scale.rises; worth = scale.worth; least = scale.least; none = none; between = between; most = most }

pub demand_2_imps : Demand2Imps
demand_2_imps = record { of_imps = of_imps; one_answer = one_answer; scale = of-scale }
