-- `place_of` meets its contract. Assumes nothing.
use Rattle.std.proofs.Common.{sym, ◌∙◌}
use Rattle.auction.proofs.Steps.{own_place, mark-place}
use Rattle.auction.proofs.place_of.Goals.{Then-refusal-number, Else-refusal-number}
use Rattle.auction.proofs.place_of.Goals as goal

pub returns-then-refusal-number : goal.returns-then-refusal-number
returns-then-refusal-number c = own_place _ _ (λ e. c.if-refusal-number.true (e ∙ sym c.number.ensures))

pub returns : goal.returns
returns c = c.saturating_sub.ensures ∙ mark-place _ _ (c.if-refusal-number.false ∙ c.number.ensures)
