-- `field::read` meets its contract. Assumes nothing.
use Prim.Native.Nat.{◌+◌, ◌*◌, ◌/◌, ◌%◌}
use native.Mathlib.Omega.{arith}
use mathlib.Core.Path.{◌≡◌, ap}
use Prim.Native.Nat.{◌<◌}
use lib.ListN.{length}
use Rattle.laws.specs.Refusals.{placed}
use Rattle.field.proofs.ThreeBytes.{too_wide, too_short, whole}
use Rattle.field.proofs.read.Goals.{then-count-first-via-then-count-first, then-count-first-via-else-count-first+then-count-first-2}
use Rattle.field.proofs.read.Goals as goal

pub returns-then-width-gt16 : goal.returns-then-width-gt16
returns-then-width-gt16 c = rw c.at.ensures (ap placed (too_wide _ _ _ c.if-width-gt16.true))

pub returns-then-first-count : goal.returns-then-first-count
returns-then-first-count c =
    let here : 8 * (c.args.at / 8) + c.args.at % 8
    ≡ c.args.at = omega arith in
    ap placed (whole c.args.bytes.now c.args.at c.args.width (rw here at c.window.ensures) (omega arith) (omega arith))

pub returns-then-count-first : goal.returns-then-count-first
returns-then-count-first c =
    let short : 8 * length c.args.bytes.now < c.args.at + c.args.width =
    elim c.then-count-first.branch [
      | then-count-first-via-then-count-first w ↦ omega arith
      | then-count-first-via-else-count-first+then-count-first-2 w ↦ omega arith
    ] in
    rw c.at-then-count-first.ensures (ap placed (too_short _ _ _ (omega arith) short))

pub returns : goal.returns
returns c =
    let here : 8 * (c.args.at / 8) + c.args.at
    % 8 ≡ c.args.at = omega arith in
    ap placed (whole c.args.bytes.now c.args.at c.args.width (rw here at c.window-2.ensures) (omega arith) (omega arith))
