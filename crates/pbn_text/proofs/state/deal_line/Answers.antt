-- `pbn_text::state::deal_line` meets its contract. Assumes nothing.
use Rattle.std.proofs.Common.{◌∙◌}
use Rattle.pbn_text.proofs.Stepping.{no_deal_lem, with_deal_lem}
use Rattle.pbn_text.proofs.state.deal_line.Goals as goal

pub returns-in_err-dealt : goal.returns-in_err-dealt
returns-in_err-dealt c x e = c.from_residual.ensures ∙ no_deal_lem _ x c.deal_in.ensures c.in_err-dealt.was

pub returns : goal.returns
returns c x e = with_deal_lem _ x c.deal_in.ensures _ e _ c.in_ok-dealt.was
