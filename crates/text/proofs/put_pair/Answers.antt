-- `text::put_pair` meets its contract. Assumes nothing.
use Rattle.laws.specs.Slip.{refusal_line}
use Rattle.text.proofs.Puts.{then}
use Rattle.text.proofs.put_pair.Goals as goal

pub returns : goal.returns
unfolding refusal_line
returns c =
    then (then (rw c.from.ensures at c.put_decimal-next.ensures)
    c.put_field-end.ensures) c.put_byte.ensures
