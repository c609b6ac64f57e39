-- `tree_stack::matchpoints_step` meets its contract. Assumes nothing.
use mathlib.Core.Path.{◌∙◌}
use borrow.Author.Rules.{rules}
use mir.Syntax.{w16}
use mir.Val.{SFits}
use mir.Facts.{to_z-of_z}
use Rattle.tree_stack.proofs.Steps.{no_top, has_top, no-points, points-said}
use Rattle.tree_stack.proofs.matchpoints_step.Goals as goal

pub returns-in_default : goal.returns-in_default
returns-in_default c = c.stop.ensures ∙ no-points _ _ (no_top _ c.top.ensures c.in_default.is)

pub returns : goal.returns
returns c =
    let f : SFits w16 c.args.given.score = search rules in
    let k = has_top _ c.top.ensures c.in-Some.is in
    rw (c.said_of-said.ensures, c.matchpoints.ensures, to_z-of_z f, c.holders_of-holders.ensures, k.1) (points-said c.args.s _ k.0)
