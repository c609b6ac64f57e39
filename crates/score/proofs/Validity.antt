-- A score's validity by the tests that `valid` makes. Assumes nothing.
use Prim.Native.Nat.{ℕ, suc, ◌≤◌, ◌%◌}
use mathlib.Core.Path.{◌≡◌}
use mathlib.Core.Bool.{true, false}
use native.Mathlib.Omega.{arith}
use borrow.Author.Tests.{lt-leb, ltb-true, leb-true}
use lib.Dec.{leb, eqb}
use lib.IntN.{ℤ, pos, negsuc, nat_abs}
use lib.Signed.{lt_z}
use Rattle.laws.specs.Law77.{valid_score}
use Rattle.laws.proofs.Tests.{and_left}

-- ---- a score below or above the range
pub too_low : (z : ℤ) → lt_z z (negsuc 7599) ≡ true → false ≡ valid_score z
unfolding valid_score
too_low (pos n) e = cc
too_low (negsuc n) e = rw (lt-leb (suc n) 7600 (omega (arith, ltb-true 7599 n e)))

pub too_high : (z : ℤ) (most : ℕ) → 7600 ≤ most → lt_z (pos most) z ≡ true → false ≡ valid_score z
unfolding valid_score
too_high (pos n) most h e = rw (lt-leb n 7600 (omega (arith, ltb-true most n e)))
too_high (negsuc n) most h e = cc

-- ---- the size of a valid score
pub valid-size : (z : ℤ) → valid_score z ≡ true → nat_abs z ≤ 7600
unfolding valid_score
valid-size z e = leb-true (nat_abs z) 7600 (and_left (leb (nat_abs z) 7600) (eqb (nat_abs z % 10) 0) e)
