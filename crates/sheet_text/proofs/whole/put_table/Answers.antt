-- `sheet_text::whole::put_table` meets its contract. The loop's invariant: the rows of the entries before `i` are put. Assumes nothing.
use native.Mathlib.Omega.{arith}
use mathlib.Core.Path.{◌≡◌}
use borrow.Author.Rules.{rules}
use lib.ListN.{length}
use Rattle.text.proofs.Puts.{then}
use Rattle.sheet_text.proofs.Rows.{table-rows, begins, ends, full, as_held, not-refused, both, few, goes}
use Rattle.sheet_text.proofs.whole.put_table.Goals as goal

pub loop-i-init : goal.loop-i-init
loop-i-init c =
    let p = c.put_header-at.ensures in
    let t = c.args.t in
    let ss : length t.scores ≡ 128 = search rules in
    let cs : length t.counts ≡ 128 = search rules in
    begins c.args.columns t ss cs c.requires p

pub returns-then-count-eq0 : goal.returns-then-count-eq0
returns-then-count-eq0 c =
    rw (table-rows _ _ c.requires)
    (then c.put_header-at.ensures
    (ends _ _ _ _ _ _ _ c.loop-i.invariant c.loop-i-test.true c.if-count-eq0.true))

pub returns-in_default : goal.returns-in_default
returns-in_default c =
    let l = c.loop-i in
    absurd (not-refused _ _ _ _ _ _ _ l.invariant c.loop-i-test.true
    c.if-count-eq0.false _ c.points_of.ensures _ c.in_default.is)

pub overflow_cast-ns : goal.overflow_cast-ns
overflow_cast-ns c =
    let l = c.loop-i in
    let h = c.loop-i-test.true in
    let u = c.if-count-eq0.false in
    let p = both _ _ _ _ _ _ _ l.invariant h u _ c.points_of.ensures _ c.in-Ok.is in
    record { fits = omega (arith, few _ _ _ _ _ _ _ l.invariant h u _ _ p.0 p.1) }

pub overflow_cast-ew : goal.overflow_cast-ew
overflow_cast-ew c =
    let l = c.loop-i in
    let h = c.loop-i-test.true in
    let u = c.if-count-eq0.false in
    let p = both _ _ _ _ _ _ _ l.invariant h u _ c.points_of.ensures _ c.in-Ok.is in
    record { fits = omega (arith, few _ _ _ _ _ _ _ l.invariant h u _ _ p.0 p.1) }

pub loop-i-preserved : goal.loop-i-preserved
loop-i-preserved c =
    let l = c.loop-i in
    let h = c.loop-i-test.true in
    let u = c.if-count-eq0.false in
    let p =
    both _ _ _ _ _ _ _ l.invariant h u _ c.points_of.ensures _ c.in-Ok.is in
    goes _ _ _ _ _ _ _ l.invariant h u _ _ p.0 p.1 _ _ (rw (as_held _ _ _ _ _ _ _ l.invariant h u, c.from.ensures) at c.put_row-at.ensures)

pub returns : goal.returns
returns c =
    rw (table-rows _ _ c.requires)
    (then c.put_header-at.ensures (full _ _ _ _ _ _ _ c.loop-i.invariant c.loop-i-test.false))
