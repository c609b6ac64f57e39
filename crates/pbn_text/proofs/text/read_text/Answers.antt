-- `pbn_text::text::read_text` meets its contract. The loop's invariant is `Reached`. Assumes nothing.
use Rattle.std.proofs.Common.{arith}
use Rattle.pbn_text.proofs.TextTurns.{begins, end_within, ends, stops, on}
use Rattle.pbn_text.proofs.text.read_text.Goals as goal

pub loop-at-init : goal.loop-at-init
loop-at-init c = begins _ _ c.start_text-t.ensures

pub overflow_sub-end : goal.overflow_sub-end
overflow_sub-end c = omega (arith, c.part_end-end.ensures)

pub returns-then-end-text : goal.returns-then-end-text
returns-then-end-text c = ends _ _ _ _ c.loop-at.invariant _ c.part_end-end.ensures c.if-end-text.true _ c.ended.ensures

pub slice_bounds-line_in-start : goal.slice_bounds-line_in-start
slice_bounds-line_in-start c = omega (arith, c.part_end-end.ensures)

pub slice_bounds-line_in-end : goal.slice_bounds-line_in-end
slice_bounds-line_in-end c = end_within _ _ _ _ c.loop-at.invariant _ c.part_end-end.ensures

pub returns-in_default : goal.returns-in_default
returns-in_default c = stops _ _ _ _ c.loop-at.invariant _ c.part_end-end.ensures c.if-end-text.false _ c.line_in.ensures c.in_default.is

pub overflow_add-at : goal.overflow_add-at
overflow_add-at c = omega (arith, c.if-end-text.false, end_within _ _ _ _ c.loop-at.invariant _ c.part_end-end.ensures)

pub loop-at-smaller : goal.loop-at-smaller
loop-at-smaller c = omega (arith, c.part_end-end.ensures, end_within _ _ _ _ c.loop-at.invariant _ c.part_end-end.ensures)

pub loop-at-preserved : goal.loop-at-preserved
loop-at-preserved c = on _ _ _ _ c.loop-at.invariant _ c.part_end-end.ensures c.if-end-text.false _ c.line_in.ensures _ c.in-Some.is _ c.min-line.ensures

pub returns : goal.returns
returns c = absurd (omega (arith, c.loop-at-test.false, c.loop-at.invariant.within))
