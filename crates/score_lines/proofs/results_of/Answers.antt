-- `score_lines::results_of` meets its contract. The loop's invariant: `Read`. Assumes nothing.
use native.Mathlib.Omega.{arith}
use mathlib.Core.Path.{refl}
use Rattle.laws.proofs.RefusalNumbers.{number_not_none}
use Rattle.score_lines.proofs.Lines.{line_ends}
use Rattle.score_lines.proofs.LinesRead.{begins, few, ends, end_after, end_within, bad, over, goes}
use Rattle.score_lines.proofs.results_of.Goals as goal

pub loop-at-init : goal.loop-at-init
loop-at-init c = rw c.empty-t.ensures (begins _)

pub slice_bounds-line-count : goal.slice_bounds-line-count
slice_bounds-line-count c = end_after _ _ _ _ c.loop-at.invariant c.loop-at-test.true _ (line_ends _ _ c.part_end-end.ensures)

pub slice_bounds-line-start : goal.slice_bounds-line-start
slice_bounds-line-start c = end_after _ _ _ _ c.loop-at.invariant c.loop-at-test.true _ (line_ends _ _ c.part_end-end.ensures)

pub slice_bounds-line-end : goal.slice_bounds-line-end
slice_bounds-line-end c = end_within _ _ _ _ c.loop-at.invariant c.loop-at-test.true _ (line_ends _ _ c.part_end-end.ensures)

pub overflow_add-k : goal.overflow_add-k
overflow_add-k c = omega (arith, few _ _ _ _ c.loop-at.invariant)

pub returns-in_default : goal.returns-in_default
returns-in_default c = bad _ _ _ _ c.loop-at.invariant c.loop-at-test.true _ (line_ends _ _ c.part_end-end.ensures) _ c.said_on.ensures c.in_default.is

pub returns-in-Err : goal.returns-in-Err
returns-in-Err c =
    over _ _ _ _ c.loop-at.invariant c.loop-at-test.true _ (line_ends _ _ c.part_end-end.ensures) _ _ c.said_on.ensures c.in-Some.is _ c.in-Err.ensures
    (number_not_none _)

pub overflow_add-at : goal.overflow_add-at
overflow_add-at c =
    omega (
      arith,
      end_within _ _ _ _ c.loop-at.invariant
          c.loop-at-test.true _
          (line_ends _ _ c.part_end-end.ensures),
    )

pub loop-at-smaller : goal.loop-at-smaller
loop-at-smaller c =
    omega (
      arith,
      end_after _ _ _ _ c.loop-at.invariant
          c.loop-at-test.true _
          (line_ends _ _ c.part_end-end.ensures),
      c.loop-at-test.true,
    )

pub loop-at-preserved : goal.loop-at-preserved
loop-at-preserved c =
    goes _ _ _ _ c.loop-at.invariant
    c.loop-at-test.true _
    (line_ends _ _ c.part_end-end.ensures) _ _
    c.said_on.ensures c.in-Some.is _
    c.in-Ok.ensures refl

pub returns : goal.returns
returns c = ends _ _ _ _ c.loop-at.invariant c.loop-at-test.false
