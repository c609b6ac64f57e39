-- Laws of the number that some bits in a row make: its bound, two numbers in a row as one, and a number within another.
-- Assumes nothing.
use Prim.Native.Nat.{ℕ, zero, suc, ◌+◌, ◌-◌, ◌*◌, ◌/◌, ◌%◌, ◌^◌, ◌<◌}
use native.Mathlib.Nat.{add-zero, add-suc, add_assoc, mul_assoc, mul-one, pow-zero, pow-suc, mod-lt}
use native.Mathlib.Omega.{arith}
use mathlib.Core.Path.{◌≡◌, ap, ◌∙◌}
use mathlib.Core.List.{List}
use lib.ListN.{get_or}
use lib.Dec.{lit<}
use lib.Pow.{pow_pos}
use lib.Arith.{digits_div, digits_mod}
use Rattle.laws.specs.Reading.{bit_at, number_at}

module _ (bytes : List ℕ) where
  pub bit_lt : (i : ℕ) → bit_at bytes i < 2
  unfolding bit_at
  bit_lt i = mod-lt (get_or bytes (i / 8) 0 / 2 ^ (7 - i % 8)) (lit< tt)

  -- w bits make a number below 2 ^ w
  pub number_lt : (at w : ℕ) → number_at bytes at w < 2 ^ w
  unfolding number_at
  number_lt at zero = pow_pos 0
  number_lt at (suc w) = rw (pow-suc 2 w) (omega (arith, number_lt at w, bit_lt (at + w)))

  -- w bits and the v bits behind them, as one number
  pub number-add : (at w v : ℕ) → number_at bytes at (w + v) ≡ number_at bytes at w * 2 ^ v + number_at bytes (at + w) v
  unfolding number_at
  number-add at w zero = simp (add-zero, pow-zero, mul-one)
  number-add at w (suc v) =
      rw (add-suc w v, pow-suc 2 v, number-add at w v, ← add_assoc at w v, ← mul_assoc (number_at bytes at w) (2 ^ v) 2) (omega arith)

  -- w bits within a number: a quotient leaves out the t bits behind them, and a remainder the r bits before them
  pub number-within : (at r w t : ℕ) → number_at bytes at (r + w + t) / 2 ^ t % 2 ^ w ≡ number_at bytes (at + r) w
  number-within at r w t =
      ap (λ (x : ℕ). x / 2 ^ t % 2 ^ w) (number-add at (r + w) t)
      ∙ ap (λ (x : ℕ). x % 2 ^ w) (digits_div (number_at bytes at (r + w)) (number_lt (at + (r + w)) t))
      ∙ ap (λ (x : ℕ). x % 2 ^ w) (number-add at r w)
      ∙ digits_mod (number_at bytes at r) (number_lt (at + r) w)
