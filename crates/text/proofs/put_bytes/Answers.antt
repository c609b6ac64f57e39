-- `text::put_bytes` meets its contract. Assumes nothing.
use Rattle.std.proofs.Common.{◌≡◌, ◌∙◌, refl, ap, arith}
use Prim.Native.Nat.{ℕ}
use lib.ListN.{length-set, take}
use lib.Seq.{sets}
use Rattle.text.proofs.Puts.{put_one, put_whole, place_least}
use Rattle.text.proofs.put_bytes.Goals as goal

pub loop-i-init : goal.loop-i-init
loop-i-init c = (refl, refl)

pub bounds-bytes-i : goal.bounds-bytes-i
bounds-bytes-i c = omega (arith, c.min-n.ensures)

pub bounds-out-start : goal.bounds-out-start
bounds-out-start c = omega (arith, c.min-n.ensures, c.min-start.ensures, c.loop-i.invariant.0)

pub loop-i-preserved : goal.loop-i-preserved
loop-i-preserved c =
    let i = c.loop-i.invariant in
    (simp length-set i.0, rw i.1 (put_one c.args.out.now c.args.bytes.now c.min-start.result c.loop-i.i (omega (arith, c.min-n.ensures))))

pub returns : goal.returns
returns c =
    let l = c.loop-i in
    let e : l.i ≡ c.min-n.result = omega (arith, l.auto.i-end) in
    record {
      place = c.saturating_add.ensures ∙ place_least _ _;
      bytes = l.invariant.1 ∙ ap (λ (k : ℕ). sets c.args.out.now c.min-start.result (take k c.args.bytes.now)) e
          ∙ put_whole c.args.out.now c.args.bytes.now c.args.at _ _ c.min-start.ensures c.min-n.ensures;
      within = omega arith;
    }
