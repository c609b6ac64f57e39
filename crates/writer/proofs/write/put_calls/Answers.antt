-- `put_calls` meets its contract: two calls. Assumes nothing.
use Rattle.writer.proofs.Writing.{front}
use Rattle.writer.proofs.write.put_calls.Goals as goal

pub returns : goal.returns
returns c = record { packer = (front _ _ _ _ _ _ (c.put-a.ensures.packer, c.put-a.ensures.bytes) (c.put_row.ensures.packer, c.put_row.ensures.bytes)).0; bytes = (front _ _ _ _ _ _ (c.put-a.ensures.packer, c.put-a.ensures.bytes) (c.put_row.ensures.packer, c.put_row.ensures.bytes)).1 }
