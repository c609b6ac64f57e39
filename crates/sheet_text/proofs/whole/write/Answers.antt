-- `sheet_text::whole::write` meets its contract. Assumes nothing.
use Rattle.sheet_text.specs.declared.columns.Columns.TheVariants.{Matchpoints}
use Rattle.text.proofs.Puts.{local_length, taken-length, taken}
use Rattle.sheet_text.proofs.Enough.{enough}
use Rattle.sheet_text.proofs.whole.write.Goals as goal

pub slice_bounds-text-end : goal.slice_bounds-text-end
slice_bounds-text-end c = local_length _ _ _ _ c.put_sheet-n.ensures (enough Matchpoints _)

pub slice_bounds-lend-end : goal.slice_bounds-lend-end
slice_bounds-lend-end c = taken-length _ _ _ _ c.put_sheet-n.ensures (enough Matchpoints _)

pub returns : goal.returns
returns c = record { answer = rw (← taken _ _ _ _ c.put_sheet-n.ensures (enough Matchpoints _)) c.lend.ensures.answer; bytes = rw (← taken _ _ _ _ c.put_sheet-n.ensures (enough Matchpoints _)) c.lend.ensures.bytes }
