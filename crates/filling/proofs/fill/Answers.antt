-- What a turn reads stands behind what was read before it. Assumes nothing.
use Rattle.std.proofs.Common.{◌-◌, length, rules, subst, sym}
use Rattle.std.specs.Io.KnownBytes.{Consumes}
use Rattle.filling.proofs.Reading.{both_read, front_put}
use Rattle.filling.proofs.fill.Goals as goal

pub loop-n-preserved : goal.loop-n-preserved
loop-n-preserved g c =
    let v = c.loop-n.invariant in
    let xs = c.loop-n.bytes in
    let read = both_read _ _ _ _ _ v.2 c.in_ok-got.ensures.bytes.0 in (
      search rules,
      search rules,
      subst (Consumes _ _) (sym (front_put c.loop-n.n (length xs - c.loop-n.n) c.in_ok-got.got xs c.read.new.buf v.0 c.in_ok-got.ensures.bound.0)) read,
    )
