-- `put_claim` meets its contract, without a claim and with one. Assumes nothing.
use Rattle.writer.proofs.Writing.{unclaimed, tricks_claimed}
use Rattle.writer.proofs.write.put_claim.Goals as goal

pub returns-in_default : goal.returns-in_default
returns-in_default c =
    let k = unclaimed _ _ (c.put.ensures.packer, c.put.ensures.bytes) in
    rw c.in_default.is (record { packer = k.0; bytes = k.1 })

pub returns : goal.returns
returns c =
    let k = tricks_claimed _ _ _ _ _ (c.put-a.ensures.packer, c.put-a.ensures.bytes) (c.put-2.ensures.packer, c.put-2.ensures.bytes) in
    rw c.in-Some.is (record { packer = k.0; bytes = k.1 })
