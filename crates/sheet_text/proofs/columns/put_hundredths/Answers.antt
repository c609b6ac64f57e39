-- `sheet_text::columns::put_hundredths` meets its contract. Assumes nothing.
use Rattle.laws.specs.CellSheet.{two_decimals}
use Rattle.text.proofs.Puts.{then}
use Rattle.sheet_text.proofs.columns.put_hundredths.Goals as goal

pub returns : goal.returns
unfolding two_decimals
returns c =
    let tenth = rw c.from.ensures at c.put_digit-c.ensures in
    let last = rw c.from-2.ensures at c.put_digit.ensures in
    then (then (then c.put_field-a.ensures c.put_byte-b.ensures) tenth) last
