-- `answer_text::put_entry` meets its contract. Assumes nothing.
use Rattle.text.proofs.Puts.{then}
use mir.Facts.{to_z-of_z}
use Rattle.answer_text.proofs.put_entry.Goals as goal

pub returns : goal.returns
returns c =
    let p = rw (to_z-of_z c.ranges.score) at c.put_score-next.ensures in
    then (then p (rw c.from.ensures at c.put_field-end.ensures)) c.put_byte.ensures
