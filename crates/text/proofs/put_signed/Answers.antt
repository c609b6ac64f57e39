-- `text::put_signed` meets its contract. Assumes nothing.
use mir.Facts.{to_z-of_z}
use Rattle.text.proofs.Puts.{then}
use Rattle.text.proofs.Signs.{below-zero, from_zero}
use Rattle.text.proofs.put_signed.Goals as goal

pub returns-then-n-lt0 : goal.returns-then-n-lt0
returns-then-n-lt0 c =
    let held = to_z-of_z c.ranges.n in
    rw (below-zero c.args.n (rw held at c.if-n-lt0.true))
    (then c.put_byte-next.ensures (rw (c.from-size.ensures, c.unsigned_abs.ensures.value, held) at c.put_decimal.ensures))

pub returns : goal.returns
returns c =
    let held = to_z-of_z c.ranges.n in
    rw (from_zero c.args.n (rw held at c.if-n-lt0.false)) (rw (c.from-size.ensures, c.unsigned_abs.ensures.value, held) at c.put_decimal-2.ensures)
