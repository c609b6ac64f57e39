-- Sums of each unit: when a sum fits. Assumes nothing.
use Prim.Native.Nat.{ℕ, ◌≤◌, ◌<◌, ◌+◌, ◌^◌}
use mathlib.Core.Path.{◌≡◌}
use mathlib.Core.Bool.{true, false}
use native.Mathlib.Omega.{arith}
use borrow.Author.Tests.{lt-ltb, le-ltb}
use lib.IntN.{ℤ, pos, negsuc, nat_abs, ◌+ℤ◌}
use mir.Syntax.{w32}
use mir.Val.{SFits}
use Rattle.laws.specs.Fitting.{fits, does_not_fit}
use Rattle.score.specs.Units.{imps_fit, imps_added, matchpoints_added}

-- a number of IMPs fits exactly where 32 bits hold it
held : (z : ℤ) → SFits w32 z → imps_fit z ≡ true
unfolding imps_fit
held (pos n) f = lt-ltb n (2 ^ 31) (omega (arith, f.sfits))
held (negsuc n) f = lt-ltb n (2 ^ 31) (omega (arith, f.sfits))

not_below : (n : ℕ) → (n < 2 ^ 31 → ⊥) → 2 ^ 31 ≤ n
not_below n f = omega arith

not_held : (z : ℤ) → (SFits w32 z → ⊥) → imps_fit z ≡ false
unfolding imps_fit
not_held (pos n) f = le-ltb n (2 ^ 31) (not_below n (λ h. f (record { sfits = omega arith })))
not_held (negsuc n) f = le-ltb n (2 ^ 31) (not_below n (λ h. f (record { sfits = omega arith })))

-- ---- the two answers, for each unit
pub imps_held : (a b : ℤ) → SFits w32 (a +ℤ b) → fits (a +ℤ b) ≡ imps_added a b
unfolding imps_added
imps_held a b f = rw (held (a +ℤ b) f)

pub imps-over : (a b : ℤ) → (SFits w32 (a +ℤ b) → ⊥) → does_not_fit ≡ imps_added a b
unfolding imps_added
imps-over a b f = rw (not_held (a +ℤ b) f)

pub matchpoints_held : (a b : ℕ) → a + b < 2 ^ 32 → fits (a + b) ≡ matchpoints_added a b
unfolding matchpoints_added
matchpoints_held a b h = rw (lt-ltb (a + b) (2 ^ 32) h)

pub matchpoints-over : (a b : ℕ) → (a + b < 2 ^ 32 → ⊥) → does_not_fit ≡ matchpoints_added a b
unfolding matchpoints_added
matchpoints-over a b h = rw (le-ltb (a + b) (2 ^ 32) (omega arith))

-- a number of few IMPs fits
pub few_fit : (z : ℤ) → nat_abs z < 2 ^ 31 → imps_fit z ≡ true
unfolding imps_fit
few_fit (pos n) h = lt-ltb n (2 ^ 31) h
few_fit (negsuc n) h = lt-ltb n (2 ^ 31) (omega arith)
