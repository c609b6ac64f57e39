-- `tree_stack::merge_step` meets its contract. Assumes nothing.
use mathlib.Core.Path.{◌∙◌}
use Rattle.tree_stack.proofs.Steps.{merge-short, merge-long, merge_lands}
use Rattle.tree_stack.proofs.merge_step.Goals as goal

pub returns-then-n-lt2 : goal.returns-then-n-lt2
returns-then-n-lt2 c = c.stop.ensures ∙ merge-short _ c.if-n-lt2.true

pub returns-then-n-gt16 : goal.returns-then-n-gt16
returns-then-n-gt16 c = c.stop-then-n-gt16.ensures ∙ merge-long _ c.if-n-gt16.true

pub returns : goal.returns
returns c =
    c.land.ensures ∙ rw c.merge.ensures
    (merge_lands c.args.s c.if-n-lt2.false
    c.if-n-gt16.false)
