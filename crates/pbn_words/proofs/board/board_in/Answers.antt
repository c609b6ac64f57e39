-- `pbn_words::board::board_in` meets its contract. Assumes nothing.
use native.Mathlib.Omega.{arith}
use mathlib.Core.Path.{sym, ◌∙◌}
use Rattle.laws.proofs.Tests.{not_both}
use Rattle.pbn_words.proofs.BoardLines.{none, found}
use Rattle.pbn_words.proofs.board.board_in.Goals as goal

pub returns-then-board-eq0 : goal.returns-then-board-eq0
returns-then-board-eq0 c = none _ _ c.board_said-board.ensures (λ from to q. omega (arith, c.if-board-eq0.true))

pub returns-then-board-gt999 : goal.returns-then-board-gt999
returns-then-board-gt999 c = none _ _ c.board_said-board.ensures (λ from to q. omega (arith, c.if-board-gt999.true))

pub returns-then-is_board_line : goal.returns-then-is_board_line
returns-then-is_board_line c = found _ _ c.if-board-eq0.false c.if-board-gt999.false (sym c.is_board_line.ensures ∙ c.if-is_board_line.true)

pub returns : goal.returns
returns c =
    none _ _ c.board_said-board.ensures
    (λ from to q. not_both _ q (sym c.is_board_line.ensures ∙ c.if-is_board_line.false))
