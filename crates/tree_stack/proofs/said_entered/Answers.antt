-- `tree_stack::said_entered` meets its contract. Assumes nothing.
use mathlib.Core.Path.{sym, ap, subst}
use Rattle.laws.specs.Refusals.{given}
use Rattle.percentages.specs.declared.Cell.{Cell}
use Rattle.percentages.specs.Cells.{entered, Numbered}
use Rattle.tree_stack.specs.Saying.{Saying}
use Rattle.tree_stack.specs.Stacks.{said_cell}
use Rattle.tree_stack.proofs.said_entered.Goals as goal

-- what is said for a cell, and that its float is a number
abbrev said : Cell → Saying
said cell = said_cell (given (entered cell))

abbrev Number : Cell → Type 0
Number cell = Numbered (given (entered cell))

pub float_to_bits-result : goal.float_to_bits-result
float_to_bits-result c = subst Number c.in-Played.is c.requires

pub float_to_bits-result-in-Awarded : goal.float_to_bits-result-in-Awarded
float_to_bits-result-in-Awarded c = subst Number c.in-Awarded.is c.requires

pub returns-in-Played : goal.returns-in-Played
returns-in-Played c = ap said (sym c.in-Played.is)

pub returns-in-Awarded : goal.returns-in-Awarded
returns-in-Awarded c = ap said (sym c.in-Awarded.is)
