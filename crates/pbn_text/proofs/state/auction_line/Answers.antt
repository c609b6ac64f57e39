-- `pbn_text::state::auction_line` meets its contract. Assumes nothing.
use Rattle.std.proofs.Common.{◌∙◌}
use Rattle.pbn_text.proofs.Stepping.{no_auction, with_auction}
use Rattle.pbn_text.proofs.state.auction_line.Goals as goal

pub returns-in_err-caller : goal.returns-in_err-caller
returns-in_err-caller c x e = c.from_residual.ensures ∙ no_auction _ x c.seat_in.ensures c.in_err-caller.was

pub returns : goal.returns
returns c x e = with_auction _ x c.seat_in.ensures _ e _ c.in_ok-caller.was
