-- `sheet_text::whole::put_table` meets its contract. The loop's invariant: the rows of the entries before `i` are put. Assumes nothing.
use Rattle.sheet_text.proofs.Rows.{Printed}
use Rattle.sheet_text.proofs.whole.put_table.Given as goal

abbrev pub invariant-loop-i : goal.invariant-loop-i
invariant-loop-i l = Printed l.columns l.t l.initial.out l.initial.at l.out l.at l.i
