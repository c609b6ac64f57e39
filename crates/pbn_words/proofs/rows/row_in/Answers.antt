-- `pbn_words::rows::row_in` meets its contract. The loop's invariant is `Reached`. Assumes nothing.
use Rattle.std.proofs.Common.{◌∙◌, false, arith}
use Rattle.pbn_words.proofs.RowsRead.{begins, end_within, stops, ends, goes, too_many}
use Rattle.pbn_words.proofs.rows.row_in.Goals as goal

pub loop-i-init : goal.loop-i-init
loop-i-init c = begins _ _

pub slice_bounds-number_in-start : goal.slice_bounds-number_in-start
slice_bounds-number_in-start c = omega (arith, c.part_end-end.ensures)

pub slice_bounds-number_in-end : goal.slice_bounds-number_in-end
slice_bounds-number_in-end c = end_within _ false _ _ c.loop-i.invariant.within c.part_end-end.ensures

pub returns-in_err-numbers : goal.returns-in_err-numbers
returns-in_err-numbers c =
    c.from_residual.ensures ∙ stops _ _ _ _ _ c.loop-i.invariant _ c.part_end-end.ensures c.number_in.ensures c.in_err-numbers.was

pub returns-then-end-line : goal.returns-then-end-line
returns-then-end-line c =
    ends _ _ _ _ _ c.loop-i.invariant _ c.part_end-end.ensures c.number_in.ensures c.in_ok-numbers.was (omega arith) c.if-end-line.true

pub overflow_add-at : goal.overflow_add-at
overflow_add-at c = omega (arith, c.if-end-line.false, end_within _ false _ _ c.loop-i.invariant.within c.part_end-end.ensures)

pub loop-i-preserved : goal.loop-i-preserved
loop-i-preserved c =
    goes _ _ _ _ _ c.loop-i.invariant _ c.part_end-end.ensures c.number_in.ensures c.in_ok-numbers.was (omega arith) c.if-end-line.false

pub returns : goal.returns
returns c = too_many _ _ _ _ _ c.loop-i.invariant (λ h. omega arith)
