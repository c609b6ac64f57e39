-- `field::window` meets its contract: three bytes hold the field. Assumes nothing.
use Rattle.std.proofs.Common.{◌≡◌, ◌%◌, ◌*◌, ◌^◌, ◌<◌, ℕ, arith, refl}
use native.Mathlib.Nat.{mod-eq_of_lt, one-mul}
use lib.Pow.{pow-lt}
use Rattle.field.proofs.ThreeBytes.{window, window_lt}
use Rattle.field.proofs.window.Goals as goal

-- nothing is shifted out
kept : (w : ℕ) → w < 32 → 1 * 2 ^ w % 2 ^ 32 ≡ 2 ^ w
kept w h = rw (one-mul (2 ^ w)) (mod-eq_of_lt (pow-lt h))

pub overflow_cast-result-2 : goal.overflow_cast-result-2
overflow_cast-result-2 c = record { fits = window_lt _ c.args.width (omega arith) (kept c.args.width (omega arith)) }

pub returns : goal.returns
returns c =
    let a = c.args in
    window a.bytes.now a.first a.skipped a.width (omega arith) (omega arith) c.three_at.ensures refl (kept a.width (omega arith))
