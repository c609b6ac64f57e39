-- `Packer::put_row` meets its contract: what is still to be put leaves what the whole row leaves. Assumes nothing.
use Rattle.packing.proofs.Rows.{Reached}
use Rattle.packing.proofs.Packer.put_row.Given as goal

abbrev pub invariant-loop-value : goal.invariant-loop-value
invariant-loop-value l = Reached l.initial.self l.initial.out l.width l.values l.self l.out l.value-index
