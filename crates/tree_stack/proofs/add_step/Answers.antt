-- `tree_stack::add_step` meets its contract. Assumes nothing.
use native.Mathlib.Omega.{arith}
use mathlib.Core.Path.{◌∙◌}
use borrow.Author.Rules.{rules}
use mir.Syntax.{w16}
use mir.Val.{SFits}
use mir.Facts.{to_z-of_z}
use Rattle.tree_stack.proofs.Steps.{no_top, has_top, some_used, no-add, add_lands}
use Rattle.tree_stack.proofs.add_step.Goals as goal

pub returns-in_default : goal.returns-in_default
returns-in_default c = c.stop.ensures ∙ no-add _ _ (no_top _ c.top.ensures c.in_default.is)

pub overflow_sub-s : goal.overflow_sub-s
overflow_sub-s c = (some_used c.args.s (has_top _ c.top.ensures c.in-Some.is).0).0

pub land-requires : goal.land-requires
land-requires c =
    let k = some_used c.args.s (has_top _ c.top.ensures c.in-Some.is).0 in
    omega (arith, k.0, k.1)

pub returns : goal.returns
returns c =
    let f : SFits w16 c.args.given.score = search rules in
    let k = has_top _ c.top.ensures c.in-Some.is in
    c.land.ensures ∙ rw (c.add.ensures, to_z-of_z f, c.holders_of-holders.ensures, k.1) (add_lands c.args.s _ k.0)
