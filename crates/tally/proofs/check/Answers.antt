-- `tally::check` meets its contract: the places first, then the deal. Assumes nothing.
use Rattle.std.proofs.Common.{ap, ◌∙◌, Result, Err}
use Rattle.laws.specs.declared.Refused.{Refused}
use Rattle.tally.specs.declared.Size.{Size}
use Rattle.tally.proofs.Checking.{not_places, not_carried, is_carried}
use Rattle.tally.proofs.check.Goals as goal

-- a refusal, as the answer
answer : Refused → Result Size Refused
answer e = Err e

pub returns-in_default : goal.returns-in_default
unfolding answer
returns-in_default c = ap answer c.at.ensures ∙ not_places _ c.in_default.ensures

pub returns-then-not-carries_deal : goal.returns-then-not-carries_deal
unfolding answer
returns-then-not-carries_deal c = ap answer c.at-then-not-carries_deal.ensures ∙ not_carried _ _ c.in-Some.ensures c.if-not-carries_deal.ensures

pub returns : goal.returns
returns c = is_carried _ _ c.in-Some.ensures c.if-not-carries_deal.ensures
