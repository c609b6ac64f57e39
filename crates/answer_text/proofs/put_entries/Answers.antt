-- `answer_text::put_entries` meets its contract. The loop's invariant: the lines of the places before `i` are put. Assumes nothing.
use native.Mathlib.Omega.{arith}
use Prim.Native.Nat.{◌<◌}
use lib.IntN.{pos}
use lib.ListN.{get_or}
use mir.Syntax.{w8, w16}
use mir.Val.{Fits, SFits}
use mir.Facts.{to_z-of_z}
use borrow.Author.Rules.{rules}
use Rattle.text.proofs.Puts.{put_length, put_again, put_since}
use Rattle.answer_text.proofs.Answering.{begins, ends, full, entry-short, goes}
use Rattle.answer_text.proofs.put_entries.Goals as goal

pub loop-i-init : goal.loop-i-init
loop-i-init c = begins _ _ _ _ (search rules) (search rules) (put_again c.put_bytes-at.ensures)

pub bounds-t-i : goal.bounds-t-i
bounds-t-i c = omega (arith, c.loop-i.invariant.places)

pub shape_of-out-then-count-eq0 : goal.shape_of-out-then-count-eq0
shape_of-out-then-count-eq0 c = put_length (put_since c.put_bytes-at.ensures c.loop-i.invariant.put)

pub returns-then-count-eq0 : goal.returns-then-count-eq0
returns-then-count-eq0 c =
    let e = ends _ _ _ _ _ c.loop-i.invariant (omega arith) c.if-count-eq0.true in
    (put_since c.put_bytes-at.ensures e.0, e.1)

pub loop-i-preserved : goal.loop-i-preserved
loop-i-preserved c =
    let l = c.loop-i in
    let t = c.args.t in
    let f : SFits w16 (get_or t.scores l.i (pos 0)) = search rules in
    let g : Fits w8 (get_or t.counts l.i 0) = search rules in
    let k : get_or t.counts l.i 0 < 256 = omega (arith, g.fits) in
    goes _ _ _ _ _ l.invariant (omega arith) c.if-count-eq0.false _ _ (entry-short _ _ f k)
    (rw (to_z-of_z f) at c.put_entry-at.ensures)

pub shape_of-out : goal.shape_of-out
shape_of-out c = put_length (put_since c.put_bytes-at.ensures c.loop-i.invariant.put)

pub returns : goal.returns
returns c =
    let e = full _ _ _ _ _ c.loop-i.invariant c.loop-i-test.false in
    (put_since c.put_bytes-at.ensures e.0, e.1)
