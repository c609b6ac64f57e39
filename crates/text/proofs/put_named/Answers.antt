-- `text::put_named` meets its contract. Assumes nothing.
use mir.Facts.{to_z-of_z}
use Rattle.text.proofs.SingleLines.{named_put}
use Rattle.text.proofs.put_named.Goals as goal

pub returns : goal.returns
returns c =
    named_put c.args.name.now c.args.score c.put_bytes-a.ensures c.put_byte-b.ensures
    (rw (to_z-of_z c.ranges.score) at c.put_score-c.ensures) c.put_byte.ensures
