-- `text::put_refused` meets its contract. Assumes nothing.
use Rattle.text.proofs.Puts.{then}
use Rattle.text.proofs.put_refused.Goals as goal

pub returns : goal.returns
returns c =
    then (then c.put_bytes-number.ensures
    (rw c.from.ensures at c.put_decimal-end.ensures)) c.put_byte.ensures
