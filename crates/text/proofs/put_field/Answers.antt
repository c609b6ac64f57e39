-- `text::put_field` meets its contract. Assumes nothing.
use Rattle.text.proofs.Puts.{then}
use Rattle.text.proofs.put_field.Goals as goal

pub returns : goal.returns
returns c = then c.put_byte-next.ensures (rw c.from.ensures at c.put_decimal.ensures)
