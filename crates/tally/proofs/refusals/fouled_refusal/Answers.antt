-- `tally::refusals::fouled_refusal` meets its contract, by its tests. Assumes nothing.
use Rattle.std.proofs.Common.{sym, ap, ◌∙◌}
use Rattle.tally.specs.Steps.{ruled}
use Rattle.tally.proofs.Dealing.{first-none, second_none, both_same, both_differ}
use Rattle.tally.proofs.refusals.fouled_refusal.Goals.{then-results-eq0-via-then-results-eq0}
use Rattle.tally.proofs.refusals.fouled_refusal.Goals.{then-results-eq0-via-else-results-eq0+then-others-eq0}
use Rattle.tally.proofs.refusals.fouled_refusal.Goals.{then-results-eq0-via-else-results-eq0+else-others-eq0+then-same_deal}
use Rattle.tally.proofs.refusals.fouled_refusal.Goals as goal

pub returns-then-results-eq0 : goal.returns-then-results-eq0
returns-then-results-eq0 c =
    elim c.then-results-eq0.branch [
      | then-results-eq0-via-then-results-eq0 w ↦ first-none _ _ _ _ w.if-results-eq0.true
      | then-results-eq0-via-else-results-eq0+then-others-eq0 w ↦ second_none _ _ _ _ w.if-others-eq0.true
      | then-results-eq0-via-else-results-eq0+else-others-eq0+then-same_deal w ↦ both_same _ _ _ _ (sym w.same_deal.ensures ∙ w.if-same_deal.true)
    ]

pub returns : goal.returns
returns c = ap ruled c.at.ensures ∙ both_differ _ _ _ _ c.if-results-eq0.false c.if-others-eq0.false (sym c.same_deal.ensures ∙ c.if-same_deal.false)
