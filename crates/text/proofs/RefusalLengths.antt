-- How long the texts of refusals are. Assumes nothing.
use Prim.Native.Nat.{ℕ, ◌+◌, ◌^◌, ◌≤◌, ◌<◌}
use native.Mathlib.Omega.{arith}
use mathlib.Core.Path.{◌≡◌}
use lib.ListN.{length, length-append}
use Rattle.laws.specs.Decimal.{decimal}
use Rattle.laws.specs.Sheet.{refusal}
use Rattle.text.specs.Refused.{refused_text}
use Rattle.text.proofs.Printed.{length_by}

pub refusal-length : (k : ℕ) → length (refusal k) ≡ length (decimal k) + 14
unfolding refusal
refusal-length k = simp length-append (omega arith)

pub line-short : (k : ℕ) → k < 2 ^ 64 → length (refusal k) ≤ 34
line-short k h = omega (arith, refusal-length k, length_by 19 k (omega arith))

pub refused-length : (n : ℕ) → length (refused_text n) ≡ length (decimal n) + 9
refused-length n = simp length-append (omega arith)
