-- `tally::refusals::boards_refusal` meets its contract, by its test. Assumes nothing.
use borrow.Author.Tests.{eq-eqb, ne_eqb}
use Rattle.laws.specs.Tally.{boards_refusal}
use Rattle.tally.proofs.refusals.boards_refusal.Goals as goal

pub returns-then-board-board2 : goal.returns-then-board-board2
unfolding boards_refusal
returns-then-board-board2 c = rw (eq-eqb _ _ c.if-board-board2.true)

pub returns : goal.returns
unfolding boards_refusal
returns c = rw (c.at.ensures, ne_eqb _ _ c.if-board-board2.false)
