-- `judge_dealer` meets its contract, by whether the number is a board. Assumes nothing.
use native.Mathlib.Omega.{arith}
use mathlib.Core.Path.{sym, ◌∙◌}
use Rattle.board_call.specs.Asked.{dealer_asked}
use Rattle.board_call.proofs.Boards.{at_most, answered, refused}
use Rattle.board_call.proofs.judge_dealer.Goals as goal

pub overflow_cast-board : goal.overflow_cast-board
overflow_cast-board c = omega (arith, at_most _ (sym c.is_board.ensures ∙ c.if-is_board.true))

pub returns-then-is_board : goal.returns-then-is_board
unfolding dealer_asked
returns-then-is_board c = c.dealer.ensures ∙ answered _ _ (sym c.is_board.ensures ∙ c.if-is_board.true)

pub returns : goal.returns
unfolding dealer_asked
returns c = c.from.ensures ∙ refused _ _ (sym c.is_board.ensures ∙ c.if-is_board.false)
