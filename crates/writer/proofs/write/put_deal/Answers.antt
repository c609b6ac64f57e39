-- `put_deal` meets its contract: three calls. Assumes nothing.
use Rattle.writer.proofs.Writing.{front}
use Rattle.writer.proofs.write.put_deal.Goals as goal

pub returns : goal.returns
returns c = record { packer = (front _ _ _ _ _ _ (c.put-a.ensures.packer, c.put-a.ensures.bytes) (front _ _ _ _ _ _ (c.put-b.ensures.packer, c.put-b.ensures.bytes) (c.put_row.ensures.packer, c.put_row.ensures.bytes))).0; bytes = (front _ _ _ _ _ _ (c.put-a.ensures.packer, c.put-a.ensures.bytes) (front _ _ _ _ _ _ (c.put-b.ensures.packer, c.put-b.ensures.bytes) (c.put_row.ensures.packer, c.put_row.ensures.bytes))).1 }
