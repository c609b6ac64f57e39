-- The size and the sign of a sum and of a difference of integers. Assumes nothing.
use Prim.Native.Nat.{ℕ, zero, suc, ◌≤◌, ◌+◌}
use native.Mathlib.Omega.{arith}
use mathlib.Core.Path.{◌≡◌, refl, sym, ap, ◌∙◌}
use mathlib.Core.Bool.{true, false}
use borrow.Author.Tests.{ltb-true, le-ltb, leb-true}
use lib.Dec.{T, ltb}
use lib.IntN.{ℤ, pos, negsuc, neg_ℤ, nat_abs, sub_ℕ, ◌+ℤ◌, ◌-ℤ◌, neg_ℤ-+ℤ, neg_ℤ-neg_ℤ, +ℤ_comm}
use lib.Signed.{le_z, mag, non_neg}
use Rattle.laws.proofs.Tests.{by_test, not_both}

pub size_neg : (z : ℤ) → nat_abs (neg_ℤ z) ≡ nat_abs z
size_neg (pos zero) = refl
size_neg (pos (suc n)) = refl
size_neg (negsuc n) = refl

pub mag-le-size : (z : ℤ) → mag z ≤ nat_abs z
mag-le-size (pos n) = omega arith
mag-le-size (negsuc n) = omega arith

size_subℕ : (a b : ℕ) → nat_abs (sub_ℕ a b) ≤ a + b
size_subℕ a b =
    by_test (ltb a b)
    (λ (q : ltb a b ≡ true). rw q (omega (arith, ltb-true a b q)))
    (λ (q : ltb a b ≡ false). rw q (omega arith))

-- a sum is no larger than both together
pub size_sum : (a b : ℤ) → nat_abs (a +ℤ b) ≤ nat_abs a + nat_abs b
size_sum (pos a) (pos b) = omega arith
size_sum (pos a) (negsuc b) = size_subℕ a (suc b)
size_sum (negsuc a) (pos b) = omega (arith, size_subℕ b (suc a))
size_sum (negsuc a) (negsuc b) = omega arith

pub size_difference : (a b : ℤ) → nat_abs (a -ℤ b) ≤ nat_abs a + nat_abs b
size_difference a b = omega (arith, size_sum a (neg_ℤ b), size_neg b)

non_neg_subℕ : (a b : ℕ) → b ≤ a → T (non_neg (sub_ℕ a b))
non_neg_subℕ a b h = rw (le-ltb a b h) tt

-- what is at most another leaves a difference that is not negative
pub non_neg_difference : (a b : ℤ) → le_z b a ≡ true → T (non_neg (a -ℤ b))
non_neg_difference (pos a) (pos zero) h = tt
non_neg_difference (pos a) (pos (suc b)) h = non_neg_subℕ a (suc b) (leb-true (suc b) a h)
non_neg_difference (pos a) (negsuc b) h = tt
non_neg_difference (negsuc a) (pos b) h = not_both false h refl
non_neg_difference (negsuc a) (negsuc b) h = non_neg_subℕ (suc b) (suc a) (omega (arith, leb-true a b h))

-- a difference turned round is its negation
pub swap_difference : (a b : ℤ) → b -ℤ a ≡ neg_ℤ (a -ℤ b)
swap_difference a b = sym (neg_ℤ-+ℤ a (neg_ℤ b) ∙ ap (λ (z : ℤ). neg_ℤ a +ℤ z) (neg_ℤ-neg_ℤ b) ∙ +ℤ_comm (neg_ℤ a) b)
