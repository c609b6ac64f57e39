-- `Packer::put_row` meets its contract: what is still to be put leaves what the whole row leaves. Assumes nothing.
use Rattle.std.proofs.Common.{arith}
use Rattle.packing.proofs.Rows.{goes, ends}
use Rattle.packing.proofs.Packer.put_row.Goals as goal

pub loop-value-preserved : goal.loop-value-preserved
loop-value-preserved c =
    goes _ _ _ _ c.loop-value.invariant (omega arith) c.from.ensures c.put-self.ensures.packer c.put-self.ensures.bytes

pub returns : goal.returns
returns c =
    let whole = ends _ _ _ _ c.loop-value.invariant (omega arith) in
    record { packer = whole.0; bytes = whole.1 }
