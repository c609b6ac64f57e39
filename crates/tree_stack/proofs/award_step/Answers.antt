-- `tree_stack::award_step` meets its contract. Assumes nothing.
use mathlib.Core.Path.{sym, subst}
use Rattle.percentages.specs.Cells.{Numbered}
use Rattle.percentages.proofs.Told.{award-numbered}
use Rattle.tree_stack.proofs.award_step.Goals as goal

pub said_cell-said-requires : goal.said_cell-said-requires
said_cell-said-requires c = subst Numbered (sym c.award.ensures) (award-numbered _)

pub returns : goal.returns
returns c = rw (c.said_cell-said.ensures, c.award.ensures)
