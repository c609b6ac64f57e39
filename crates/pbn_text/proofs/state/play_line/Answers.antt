-- `pbn_text::state::play_line` meets its contract. Assumes nothing.
use Rattle.std.proofs.Common.{◌∙◌}
use Rattle.pbn_text.proofs.KeptNumbers.{none_kept}
use Rattle.pbn_text.proofs.Stepping.{no_play, with_play_lem}
use Rattle.pbn_text.proofs.state.play_line.Goals as goal

pub returns-in_err-seat : goal.returns-in_err-seat
returns-in_err-seat c stage x e = c.from_residual.ensures ∙ no_play _ x c.seat_in.ensures c.in_err-seat.was

pub returns : goal.returns
returns c stage x e = with_play_lem _ x c.seat_in.ensures _ stage e _ c.in_ok-seat.was _ (none_kept _ c.default.ensures.0 c.default.ensures.1)
