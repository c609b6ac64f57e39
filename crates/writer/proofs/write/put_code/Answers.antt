-- `put_code` meets its contract, of an exposure and of a choice. Assumes nothing.
use Rattle.writer.proofs.Writing.{exposure_put, choice_put}
use Rattle.writer.proofs.write.put_code.Goals as goal

pub returns-then-code-eq52 : goal.returns-then-code-eq52
returns-then-code-eq52 c = record { packer = (exposure_put _ _ _ _ _ _ _ _ _ c.if-code-eq52.true (c.put-a.ensures.packer, c.put-a.ensures.bytes) (c.put-b.ensures.packer, c.put-b.ensures.bytes) (c.put.ensures.packer, c.put.ensures.bytes)).0; bytes = (exposure_put _ _ _ _ _ _ _ _ _ c.if-code-eq52.true (c.put-a.ensures.packer, c.put-a.ensures.bytes) (c.put-b.ensures.packer, c.put-b.ensures.bytes) (c.put.ensures.packer, c.put.ensures.bytes)).1 }

pub returns : goal.returns
returns c = record { packer = (choice_put _ _ _ _ _ _ _ _ _ c.if-code-eq52.false (c.put-a.ensures.packer, c.put-a.ensures.bytes) (c.put-c.ensures.packer, c.put-c.ensures.bytes) (c.put-2.ensures.packer, c.put-2.ensures.bytes)).0; bytes = (choice_put _ _ _ _ _ _ _ _ _ c.if-code-eq52.false (c.put-a.ensures.packer, c.put-a.ensures.bytes) (c.put-c.ensures.packer, c.put-c.ensures.bytes) (c.put-2.ensures.packer, c.put-2.ensures.bytes)).1 }
