-- `put_item` meets its contract. Assumes nothing.
use mir.Facts.{to_z-of_z}
use Rattle.slip_text.proofs.Placing.{no_line, some-line}
use Rattle.slip_text.proofs.put_item.Goals as goal

pub returns-then-points-eq0 : goal.returns-then-points-eq0
returns-then-points-eq0 c = rw (no_line c.args.name.now c.args.points c.ranges.points c.if-points-eq0.true) c.put_bytes.ensures

pub returns : goal.returns
returns c =
    rw (some-line c.args.name.now c.args.points c.ranges.points c.if-points-eq0.false)
    (rw (to_z-of_z c.ranges.points) at c.put_named.ensures)
