-- `sheet_text::whole::put_row` meets its contract. Assumes nothing.
use mir.Facts.{to_z-of_z}
use Rattle.text.proofs.Puts.{then}
use Rattle.sheet_text.proofs.whole.put_row.Goals as goal

pub returns : goal.returns
returns c =
    let p = rw (to_z-of_z c.ranges.score) at c.put_score-a.ensures in
    then (then (then (then p c.put_field-b.ensures) c.put_side-c.ensures) c.put_side-d.ensures) c.put_byte.ensures
