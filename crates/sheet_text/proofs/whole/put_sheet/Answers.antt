-- `sheet_text::whole::put_sheet` meets its contract. Assumes nothing.
use Rattle.sheet_text.proofs.Sheets.{sheet-refused, well, sheet-table}
use Rattle.sheet_text.proofs.whole.put_sheet.Goals as goal

pub put_table-requires : goal.put_table-requires
put_table-requires c = well _ _ c.in-Ok.ensures

pub returns-in-Ok : goal.returns-in-Ok
returns-in-Ok c = rw (sheet-table _ _ c.in-Ok.ensures _) c.put_table.ensures

pub returns-in-Err : goal.returns-in-Err
returns-in-Err c = rw (sheet-refused _ _ c.in-Err.ensures _, ← c.from.ensures) c.put_refusal.ensures
