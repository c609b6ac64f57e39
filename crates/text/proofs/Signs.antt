-- A number as it is printed: its sign, and its size. Assumes nothing.
use Rattle.std.specs.Prelude.{ℤ, pos, negsuc, ◌≡◌, ◌∷◌, true, false, int_lt, unsigned_abs}
use Rattle.std.proofs.Common.{refl, arith}
use borrow.Author.Tests.{ltb-true}
use Rattle.laws.specs.Decimal.{decimal, signed_decimal}

pub below-zero : (z : ℤ) → int_lt z (pos 0) ≡ true → signed_decimal z ≡ 45 ∷ decimal (unsigned_abs z)
unfolding signed_decimal
below-zero (pos n) e = absurd (omega (arith, ltb-true n 0 e))
below-zero (negsuc n) e = refl

pub from_zero : (z : ℤ) → int_lt z (pos 0) ≡ false → signed_decimal z ≡ decimal (unsigned_abs z)
unfolding signed_decimal
from_zero (pos n) e = refl
from_zero (negsuc n) e = cc
