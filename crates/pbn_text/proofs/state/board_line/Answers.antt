-- `pbn_text::state::board_line` meets its contract. Assumes nothing.
use Rattle.std.proofs.Common.{◌∙◌}
use Rattle.pbn_text.proofs.Stepping.{no_board, with_board_lem}
use Rattle.pbn_text.proofs.state.board_line.Goals as goal

pub returns-in_err-board : goal.returns-in_err-board
returns-in_err-board c x e = c.from_residual.ensures ∙ no_board _ x c.board_in.ensures c.in_err-board.was

pub returns : goal.returns
returns c x e = with_board_lem _ x c.board_in.ensures _ e _ c.in_ok-board.was
