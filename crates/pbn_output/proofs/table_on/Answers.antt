-- `table_on` meets its contract: a law of Printed for each way out. Assumes nothing.
use mathlib.Core.Path.{sym, ◌∙◌}
use Rattle.decimal.proofs.Scores.{is-number, no_number_lem}
use Rattle.pbn_output.proofs.Printed.{some_byte, no_table_lem, long-table, zero-first, table_is}
use Rattle.pbn_output.proofs.table_on.Goals as goal

pub returns-in_default : goal.returns-in_default
returns-in_default c = no_table_lem _ (no_number_lem _ _ c.read_number.ensures c.in_default.is)

pub returns-then-line-gt3 : goal.returns-then-line-gt3
returns-then-line-gt3 c = long-table _ ((is-number _ _ _ c.read_number.ensures c.in-Some.is)).0 c.if-line-gt3.true

pub bounds-line-0 : goal.bounds-line-0
bounds-line-0 c = some_byte _ ((is-number _ _ _ c.read_number.ensures c.in-Some.is)).0

pub returns-then-line-eq48 : goal.returns-then-line-eq48
returns-then-line-eq48 c = zero-first _ ((is-number _ _ _ c.read_number.ensures c.in-Some.is)).0 c.if-line-gt3.false c.if-line-eq48.true

pub returns : goal.returns
returns c =
    let n = (is-number _ _ _ c.read_number.ensures c.in-Some.is) in
    sym n.1 ∙ table_is _ n.0 c.if-line-gt3.false c.if-line-eq48.false
