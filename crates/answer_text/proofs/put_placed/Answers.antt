-- `answer_text::put_placed` meets its contract. Assumes nothing.
use Rattle.text.proofs.Puts.{then}
use Rattle.answer_text.proofs.put_placed.Goals as goal

pub returns : goal.returns
returns c =
    let word = rw c.from.ensures at c.put_decimal-word.ensures in
    let end = rw c.from-2.ensures at c.put_decimal-end.ensures in
    then (then (then (then c.put_bytes-start.ensures word) c.put_bytes-at.ensures) end) c.put_byte.ensures
