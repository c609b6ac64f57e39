-- `transfer::won_from` meets its contract: the winners are those of the answers. Assumes nothing.
use Rattle.std.proofs.Common.{◌-◌, ◌%◌, eqb, rules, ◌∙◌}
use borrow.Author.Tests.{tests}
use Rattle.std.proofs.lemmas.Iterator.{YieldsList-from_slice, YieldsList-from_take}
use Rattle.std.proofs.lemmas.Iterator.Adapters.{YieldsList-from_skip}
use Rattle.std.proofs.lemmas.Iterator.Consumers.{YieldsList-at, YieldsList-from_filter, count_from_yields_List}
use Rattle.play.specs.declared.Won.{Won}
use Rattle.transfer.proofs.Lists.{won-listed}
use Rattle.transfer.proofs.won_from.Goals as goal

pub returns : goal.returns
returns c =
    let ts = c.args.ts in
    let by_side = λ (w : Won). eqb (w.seat % 2) c.args.side in
    count_from_yields_List _ _ c.count.ensures.ran
    (YieldsList-from_filter _ by_side
    (YieldsList-at c.filter.ensures.source
    (YieldsList-from_skip (c.args.trick - 1)
    (YieldsList-at c.skip.ensures.source
    (YieldsList-from_take ts.count (YieldsList-at c.take.ensures.source (YieldsList-from_slice _ c.iter.ensures.rest)) c.take.ensures.count))
    (c.skip.ensures.count ∙ c.saturating_sub-first.ensures)))
    c.filter.ensures.closure (λ x b q k. search (rules, tests)))
    ∙ won-listed ts c.args.side (c.args.trick - 1)
