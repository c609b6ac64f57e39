-- `tally::check_places` meets its contract. The loop's invariant: the places are in order exactly where those from `i` on are, below `top` and within `room`;
-- and what is counted, with what the places from `i` on hold, is the whole. Assumes nothing.
use Rattle.std.proofs.Common.{◌≡◌, ◌<◌, ◌≤◌, ◌-◌, true, refl, sym, ◌∙◌, rules, arith}
use Prim.Native.Nat.{suc}
use native.Mathlib.Numerals.{add-one}
use mathlib.Core.Bool.{◌&&◌}
use borrow.Author.Tests.{le-leb, lt-leb}
use lib.Dec.{leb}
use lib.IntN.{pos}
use lib.ListN.{length, get_or}
use mir.Syntax.{w16}
use mir.Val.{SFits, to_z}
use mir.Facts.{to_z-of_z}
use Rattle.laws.specs.Law77.{valid_score}
use Rattle.laws.proofs.Scores.{le-not-below, not-le-below}
use Rattle.tally.specs.Tallies.{ceiling}
use Rattle.tally.proofs.Refusing.{board-zero, board-over}
use Rattle.tally.proofs.Places.{order_at, order-used, order-unused, order_end}
use Rattle.tally.proofs.Places.{entries-used, entries-unused, entries_end, bad_board, in-order}
use Rattle.tally.proofs.Checking.{none_sized, some-sized, counted}
use Rattle.tally.proofs.check_places.Goals.{Else-not-valid, Else-top-s}
use Rattle.tally.proofs.check_places.Goals as goal

pub returns-then-t-eq0 : goal.returns-then-t-eq0
returns-then-t-eq0 c = none_sized _ _ (bad_board c.args.t (board-zero c.args.t.board c.if-t-eq0.true))

pub returns-then-t-gt127 : goal.returns-then-t-gt127
returns-then-t-gt127 c = none_sized _ _ (bad_board c.args.t (board-over c.args.t.board c.if-t-eq0.false c.if-t-gt127.true))

pub loop-i-init : goal.loop-i-init
loop-i-init c = (omega arith, refl, omega arith, omega arith)

pub returns-then-not-zeros_from : goal.returns-then-not-zeros_from
returns-then-not-zeros_from c =
    let whole = in-order c.args.t c.if-t-eq0.false c.if-t-gt127.false (search rules) (search rules) in
    let t = c.args.t in
    let l = c.loop-i in
    let m : l.i < length t.scores = search rules in
    let n : l.i < length t.counts = search rules in
    none_sized _ _ (c.if-not-zeros_from.ensures
    ∙ sym (whole ∙ (l.invariant.1 ∙ order-unused t.scores t.counts l.i (to_z w16 l.top-bits) l.room m n c.if-c-eq0.true)))

pub returns-then-c-eq0 : goal.returns-then-c-eq0
returns-then-c-eq0 c =
    let whole = in-order c.args.t c.if-t-eq0.false c.if-t-gt127.false (search rules) (search rules) in
    let t = c.args.t in
    let l = c.loop-i in
    let m : l.i < length t.scores = search rules in
    let n : l.i < length t.counts = search rules in
    let z = c.if-c-eq0.true in
    some-sized _ _ _
    (c.if-not-zeros_from.ensures ∙ sym (whole ∙ (l.invariant.1 ∙ order-unused t.scores t.counts l.i (to_z w16 l.top-bits) l.room m n z)))
    (counted t l.i (128 - l.room) _ (entries-unused t.scores t.counts l.i m n z) l.invariant.2 l.invariant.3)

pub returns-then-not-valid : goal.returns-then-not-valid
returns-then-not-valid c =
    let whole = in-order c.args.t c.if-t-eq0.false c.if-t-gt127.false (search rules) (search rules) in
    let turn = c.loop-i.invariant.1
    ∙ order-used c.args.t.scores c.args.t.counts c.loop-i.i (to_z w16 c.loop-i.top-bits) c.loop-i.room (search rules) (search rules) c.if-c-eq0.false in
    let f : SFits w16 (get_or c.args.t.scores c.loop-i.i (pos 0)) = search rules in
    let v = sym (rw (to_z-of_z f) at c.if-not-valid.ensures) in
    none_sized _ _
    (sym (whole ∙ (turn ∙ rw v)))

-- past the test of the score
valid : (c : Else-not-valid) → valid_score (get_or c.args.t.scores c.loop-i.i (pos 0)) ≡ true
valid c =
    let f : SFits w16 (get_or c.args.t.scores c.loop-i.i (pos 0)) = search rules in
    sym (rw (to_z-of_z f) at c.if-not-valid.ensures)

pub returns-then-top-s : goal.returns-then-top-s
returns-then-top-s c =
    let whole = in-order c.args.t c.if-t-eq0.false c.if-t-gt127.false (search rules) (search rules) in
    let turn = c.loop-i.invariant.1
    ∙ order-used c.args.t.scores c.args.t.counts c.loop-i.i (to_z w16 c.loop-i.top-bits) c.loop-i.room (search rules) (search rules) c.if-c-eq0.false in
    let l = c.loop-i in
    let x = get_or c.args.t.scores l.i (pos 0) in
    let f : SFits w16 x = search rules in
    let q = le-not-below (to_z w16 l.top-bits) x (rw (to_z-of_z f) at c.if-top-s.true) in
    none_sized _ _
    (sym (whole ∙ (turn ∙ rw (valid c.before, q))))

-- past the tests of the score the answer is that of its count, and of the places after it
falling : (c : Else-top-s) →
    let a = c.args.t in
    let l = c.loop-i in
    let x = get_or a.scores l.i (pos 0) in
    order_at a.scores a.counts ceiling 128 0 ≡
    (leb (get_or a.counts l.i 0) l.room && order_at a.scores a.counts x (l.room - get_or a.counts l.i 0) (suc l.i))
falling c =
    let turn = c.loop-i.invariant.1
    ∙ order-used c.args.t.scores c.args.t.counts c.loop-i.i (to_z w16 c.loop-i.top-bits) c.loop-i.room (search rules) (search rules) c.if-c-eq0.false in
    let l = c.loop-i in
    let x = get_or c.args.t.scores l.i (pos 0) in
    let f : SFits w16 x = search rules in
    let q = not-le-below (to_z w16 l.top-bits) x (rw (to_z-of_z f) at c.if-top-s.false) in
    rw (valid c.before, q) at
    turn

pub returns-then-room-c : goal.returns-then-room-c
returns-then-room-c c =
    let whole = in-order c.args.t c.if-t-eq0.false c.if-t-gt127.false (search rules) (search rules) in
    none_sized _ _ (sym (whole ∙ rw (lt-leb _ _ c.if-room-c.true) at (falling c.before)))

pub loop-i-preserved : goal.loop-i-preserved
loop-i-preserved c =
    let t = c.args.t in
    let l = c.loop-i in
    let m : l.i < length t.scores = search rules in
    let n : l.i < length t.counts = search rules in
    let f : SFits w16 (get_or t.scores l.i (pos 0)) = search rules in
    let e = entries-used t.scores t.counts l.i m n c.if-c-eq0.false in (
      omega arith,
      rw (to_z-of_z f, add-one l.i) (rw (le-leb _ _ c.if-room-c.false) at (falling c.before)),
      rw (add-one l.i) (omega (arith, rw e at l.invariant.2, c.if-room-c.false, l.invariant.0)),
      rw (add-one l.i) (omega (arith, rw e at l.invariant.3)),
    )

pub returns : goal.returns
returns c =
    let whole = in-order c.args.t c.if-t-eq0.false c.if-t-gt127.false (search rules) (search rules) in
    let t = c.args.t in
    let l = c.loop-i in
    let m : length t.scores ≤ l.i = search rules in
    some-sized _ _ _
    (sym (whole ∙ (l.invariant.1 ∙ order_end t.scores t.counts l.i (to_z w16 l.top-bits) l.room m)))
    (counted t 128 (128 - l.room) _ (entries_end t.scores t.counts l.i m) l.invariant.2 (omega (arith, l.invariant.3)))
