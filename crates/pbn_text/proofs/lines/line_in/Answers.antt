-- `pbn_text::lines::line_in` meets its contract. Assumes nothing.
use Rattle.std.proofs.Common.{sym, ◌∙◌}
use Rattle.laws.specs.PbnReading.{line_in}
use Rattle.pbn_text.proofs.AnyStage.{at_stage}
use Rattle.pbn_text.proofs.lines.line_in.Goals as goal

pub returns-in-Board : goal.returns-in-Board
returns-in-Board c stage x e = at_stage _ stage x e _ c.in-Board.is _ _ (λ e lists. c.board_line.ensures x e)

pub returns-in-Deal : goal.returns-in-Deal
returns-in-Deal c stage x e = at_stage _ stage x e _ c.in-Deal.is _ _ (λ e lists. c.deal_line.ensures x e)

pub returns-in-Auction : goal.returns-in-Auction
returns-in-Auction c stage x e = at_stage _ stage x e _ c.in-Auction.is _ _ (λ e lists. c.auction_line.ensures x e)

pub returns-in-FirstCalls : goal.returns-in-FirstCalls
unfolding line_in
returns-in-FirstCalls c stage x e = at_stage _ stage x e _ c.in-FirstCalls.is _ _ (λ e lists. c.calls_line.ensures _ x e)

pub returns-then-has_bracket : goal.returns-then-has_bracket
unfolding line_in
returns-then-has_bracket c stage x e =
    at_stage _ stage x e _ c.in-Calls.is _ _ (λ e lists. rw (sym c.has_bracket.ensures ∙ c.if-has_bracket.true) (c.play_line.ensures _ x e))

pub returns-else-has_bracket : goal.returns-else-has_bracket
unfolding line_in
returns-else-has_bracket c stage x e =
    at_stage _ stage x e _ c.in-Calls.is _ _ (λ e lists. rw (sym c.has_bracket.ensures ∙ c.if-has_bracket.false) (c.calls_line-in-Calls.ensures _ x e))

pub returns-in-CallsOver : goal.returns-in-CallsOver
unfolding line_in
returns-in-CallsOver c stage x e = at_stage _ stage x e _ c.in-CallsOver.is _ _ (λ e lists. c.play_line-in-CallsOver.ensures _ x e)

pub returns-in-Cards : goal.returns-in-Cards
returns-in-Cards c stage x e =
    at_stage _ stage x e _ c.in-Cards.is _ _ (λ e lists. c.cards_line.ensures x lists.0 lists.1 e lists.2)
