-- `pbn_text::state::calls_line` meets its contract. Assumes nothing.
use Rattle.std.proofs.Common.{false, ◌∙◌}
use Rattle.pbn_text.proofs.RowLines.{at_most_four, no_calls_lem, four-calls, fewer_calls}
use Rattle.pbn_text.proofs.state.calls_line.Goals as goal

pub returns-in_err-row : goal.returns-in_err-row
returns-in_err-row c stage x e = c.from_residual.ensures ∙ no_calls_lem _ x c.row_in.ensures c.in_err-row.was

pub with_row-calls-requires : goal.with_row-calls-requires
with_row-calls-requires c = at_most_four false c.args.line.now c.row_in.ensures _ c.in_ok-row.was

pub returns-then-row-eq4 : goal.returns-then-row-eq4
returns-then-row-eq4 c stage x e = four-calls _ x c.row_in.ensures _ stage e _ c.in_ok-row.was _ c.with_row-calls.ensures c.if-row-eq4.true

pub returns : goal.returns
returns c stage x e = fewer_calls _ x c.row_in.ensures _ stage e _ c.in_ok-row.was _ c.with_row-calls.ensures c.if-row-eq4.false
