-- A seat at a place fits the word of the first bidders. Assumes nothing.
use Prim.Native.Nat.{ℕ, ◌+◌, ◌*◌, ◌%◌, ◌^◌, ◌<◌, ◌≤◌}
use mathlib.Core.Path.{◌≡◌}
use native.Mathlib.Nat.{mul-le-mul, mod-eq_of_lt}
use native.Mathlib.Omega.{arith}
use lib.Pow.{pow_mono}

seat-low : (s : ℕ) → s % 4 + 1 ≤ 4
seat-low s = omega arith

-- a bit times one more than a seat
pub at_most_four : (r s : ℕ) → r < 2 → r * (s % 4 + 1) ≤ 4
at_most_four r s h = omega (arith, mul-le-mul {n₁ = r} {n₂ = 1} (omega arith) (seat-low s))

-- it stands below the thirtieth bit
pub below_thirty : (r s i : ℕ) → r < 2 → i < 10 → r * (s % 4 + 1) * 2 ^ (3 * i) < 2 ^ 30
below_thirty r s i h l =
    omega (arith, mul-le-mul {n₁ = r * (s % 4 + 1)} {n₂ = 4} (at_most_four r s h) (pow_mono {i = 3 * i} {j = 27} (omega arith)))

-- so no bit is lost
pub none_lost : (r s i : ℕ) → r < 2 → i < 10 → r * (s % 4 + 1) * 2 ^ (3 * i) % 2 ^ 64 ≡ r * (s % 4 + 1) * 2 ^ (3 * i)
none_lost r s i h l = mod-eq_of_lt (omega (arith, below_thirty r s i h l))
