-- `is_padding` meets its contract. Assumes nothing.
use Rattle.std.proofs.Common.{◌-◌, ◌%◌, arith}
use Rattle.field.proofs.ThreeBytes.{given-is, refused_short}
use Rattle.judgement.proofs.Padding.{none-behind, whole-bytes, more_bytes, bits_left}
use Rattle.judgement.proofs.claim.is_padding.Goals as goal

pub returns-then-bytes-at : goal.returns-then-bytes-at
returns-then-bytes-at c = none-behind c.args.bytes.now c.args.at c.if-bytes-at.true

pub returns-then-used-eq0 : goal.returns-then-used-eq0
returns-then-used-eq0 c = whole-bytes c.args.bytes.now c.args.at c.if-bytes-at.false c.if-used-eq0.true

pub returns-then-bytes-at-2 : goal.returns-then-bytes-at-2
returns-then-bytes-at-2 c = more_bytes c.args.bytes.now c.args.at c.if-bytes-at.false c.if-bytes-at-2.true

pub returns-in-Ok : goal.returns-in-Ok
returns-in-Ok c =
    let a = c.args in
    bits_left a.bytes.now a.at c.if-bytes-at.false c.if-used-eq0.false c.if-bytes-at-2.false _
    (given-is a.bytes.now a.at (8 - a.at % 8) c.in-Ok.ensures).0

pub returns-in-Err : goal.returns-in-Err
returns-in-Err c =
    let a = c.args in
    absurd (omega (arith, refused_short a.bytes.now a.at (8 - a.at % 8) (omega arith) c.in-Err.ensures, c.if-bytes-at-2.false))
