-- `Packer::finish` meets its contract: a field of zero bits up to the byte's end is put. Assumes nothing.
use Rattle.laws.specs.Record.{padding}
use Rattle.packing.specs.Packed.{bytes_finished}
use Rattle.packing.proofs.Packer.finish.Goals as goal

pub returns : goal.returns
unfolding bytes_finished padding
returns c = c.put.ensures.bytes
