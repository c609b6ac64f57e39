-- `field::three_at` meets its contract, whether the three bytes are all there or not. Assumes nothing.
use Rattle.field.proofs.ThreeBytes.{number_three}
use Rattle.std.proofs.Common.{ℕ, ◌+◌, arith}
use Rattle.field.proofs.three_at.Goals as goal

pub returns-then-first-bytes : goal.returns-then-first-bytes
returns-then-first-bytes c =
    let a = c.args in
    let small = λ (i : ℕ). (c.type_inv.bytes i).fits in
    number_three a.bytes.now a.first
    (c.from.ensures, omega (arith, c.from.ensures, small a.first))
    (c.from-then-first-bytes.ensures, omega (arith, c.from-then-first-bytes.ensures, small (a.first + 1)))
    (c.from-then-first-bytes-2.ensures, omega (arith, c.from-then-first-bytes-2.ensures, small (a.first + 2)))

pub returns : goal.returns
returns c =
    let a = c.args in
    number_three a.bytes.now a.first c.byte_at.ensures c.byte_at-2.ensures c.byte_at-3.ensures
