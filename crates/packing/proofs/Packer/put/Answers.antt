-- `Packer::put` meets its contract. Assumes nothing.
use Rattle.std.proofs.Common.{◌+◌, ◌%◌, arith, refl}
use Rattle.packing.proofs.Storing.{power_kept, put_wide, put_narrow}
use Rattle.packing.proofs.Packer.put.Goals as goal

pub returns-then-width-gt16 : goal.returns-then-width-gt16
returns-then-width-gt16 c =
    let same = put_wide c.args.out.now c.args.self c.args.width c.args.value c.if-width-gt16.true in
    record { packer = same.0; bytes = same.1 }

pub returns : goal.returns
returns c =
    let a = c.args in
    let span = power_kept a.width (omega arith) in
    let below = power_kept ((a.self.count % 8 + a.width) % 8) (omega arith) in
    let put = put_narrow a.out.now a.self a.width a.value (omega arith) c.from.ensures span span below
    (c.store_last-at.ensures.value, c.store_last-at.ensures.out_after) refl in
    record { packer = put.0; bytes = put.1 }
