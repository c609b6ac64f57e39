-- `pbn_text::state::cards_line` meets its contract. Assumes nothing.
use Rattle.std.proofs.Common.{◌∙◌}
use Rattle.pbn_text.proofs.RowLines.{no_line_left, no_cards_lem, fewer_cards, with_cards}
use Rattle.pbn_text.proofs.state.cards_line.Goals as goal

pub returns-then-rows-eq0 : goal.returns-then-rows-eq0
returns-then-rows-eq0 c x seat l e lists = no_line_left _ x _ c.if-rows-eq0.true

pub returns-in_err-row : goal.returns-in_err-row
returns-in_err-row c x seat l e lists = c.from_residual.ensures ∙ no_cards_lem _ x c.row_in.ensures _ c.in_err-row.was

pub returns-then-row-ne4 : goal.returns-then-row-ne4
returns-then-row-ne4 c x seat l e lists = fewer_cards _ x c.row_in.ensures _ c.in_ok-row.was _ c.if-row-ne4.true

pub returns : goal.returns
returns c x seat l e lists =
    with_cards _ x c.row_in.ensures _ c.in_ok-row.was _ _ seat l e lists c.if-rows-eq0.false _ c.with_row.ensures c.if-row-ne4.false
