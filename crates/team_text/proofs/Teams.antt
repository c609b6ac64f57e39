-- How long the texts of a team match are. Assumes nothing.
use Prim.Native.Nat.{ℕ, suc, ◌+◌, ◌≤◌, ◌<◌}
use native.Mathlib.Omega.{arith}
use mathlib.Core.Path.{◌≡◌}
use lib.IntN.{ℤ, pos, negsuc}
use lib.ListN.{length, length-append}
use mir.Syntax.{w32}
use mir.Val.{SFits}
use Rattle.laws.specs.Decimal.{signed_decimal}
use Rattle.text.specs.Refused.{refused_text}
use Rattle.team_text.specs.Team.{imps_text, totals_text}
use Rattle.text.proofs.RefusalLengths.{refused-length}
use Rattle.text.proofs.Printed.{length_3, length_by}

pub imps-length : (z : ℤ) → length (imps_text z) ≡ length (signed_decimal z) + 1
imps-length z = simp length-append (omega arith)

pub totals-length : (a b : ℤ) → length (totals_text a b) ≡ length (signed_decimal a) + length (signed_decimal b) + 8
totals-length a b = simp length-append (omega arith)

signed-short : (z : ℤ) → SFits w32 z → length (signed_decimal z) ≤ 11
unfolding signed_decimal
signed-short (pos n) f = omega (arith, length_by 9 n (omega (arith, f.sfits)))
signed-short (negsuc n) f = omega (arith, length_by 9 (suc n) (omega (arith, f.sfits)))

pub refused-short : (n : ℕ) → n < 256 → length (refused_text n) ≤ 12
refused-short n h = omega (arith, refused-length n, length_3 n (omega arith))

pub imps-short : (z : ℤ) → SFits w32 z → length (imps_text z) ≤ 12
imps-short z f = omega (arith, imps-length z, signed-short z f)

pub totals-short : (a b : ℤ) → SFits w32 a → SFits w32 b → length (totals_text a b) ≤ 30
totals-short a b f g = omega (arith, totals-length a b, signed-short a f, signed-short b g)
