-- `tree_print::feed` meets its contract. Assumes nothing.
use Rattle.std.proofs.Common.{sym, ap, ◌∙◌}
use Rattle.tree_run.specs.Runs.{Brought}
use Rattle.tree_print.proofs.Feeding.{fed_more, fed_all}
use Rattle.tree_print.proofs.feed.Goals as goal

pub loop-b-preserved : goal.loop-b-preserved
loop-b-preserved g c =
    let run-is = ap (λ (b : Brought). b.run) c.take-fed.ensures in
    c.loop-b.invariant ∙ rw run-is (fed_more _ _ _ c.loop-b-test.true)

pub returns : goal.returns
returns g c = fed_all _ _ _ c.loop-b-test.false ∙ sym c.loop-b.invariant
