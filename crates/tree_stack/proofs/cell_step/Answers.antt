-- `tree_stack::cell_step` meets its contract. Assumes nothing.
use mathlib.Core.Path.{sym, subst, ◌∙◌}
use borrow.Author.Rules.{rules}
use mir.Syntax.{w16}
use mir.Val.{SFits}
use mir.Facts.{to_z-of_z}
use Rattle.percentages.specs.Cells.{Numbered}
use Rattle.percentages.proofs.Told.{cell-numbered}
use Rattle.tree_stack.proofs.Steps.{no_top, has_top, no-cell, cell-said}
use Rattle.tree_stack.proofs.cell_step.Goals as goal

pub returns-in_default : goal.returns-in_default
returns-in_default c = c.stop.ensures ∙ no-cell _ _ (no_top _ c.top.ensures c.in_default.is)

pub said_cell-said-requires : goal.said_cell-said-requires
said_cell-said-requires c = subst Numbered (sym c.cell_of.ensures) (cell-numbered _ _)

pub returns : goal.returns
returns c =
    let f : SFits w16 c.args.given.score = search rules in
    let k = has_top _ c.top.ensures c.in-Some.is in
    rw (c.said_cell-said.ensures, c.cell_of.ensures, to_z-of_z f, c.holders_of-holders.ensures, k.1) (cell-said c.args.s _ k.0)
