-- `tally_award` meets its contract: a short buffer first, then what the call answers for the award. Assumes nothing.
use borrow.Author.Rules.{rules}
use mathlib.Core.Path.{refl, sym, ap, ◌∙◌, subst}
use Rattle.percentages.specs.Cells.{entered, cell_answer, Numbered}
use Rattle.percentages.proofs.Told.{award-numbered}
use Rattle.tally_calls.specs.Calls.{spelled, cell_bytes, award_call}
use Rattle.tally_calls.proofs.Saying.{mapped, says-short, says-within}
use Rattle.tally_calls.proofs.tally_award.Goals as goal

pub returns-then-cell-lt9 : goal.returns-then-cell-lt9
unfolding award_call
returns-then-cell-lt9 c =
    let s = says-short 9 _ c.args.cell.now c.if-cell-lt9.true c.short.ensures in
    record { number = s.0; left = s.1 }

pub map-requires : goal.map-requires
map-requires c _ is = subst Numbered (sym (ap cell_answer (sym is) ∙ c.award.ensures)) (award-numbered _)

pub returns : goal.returns
unfolding award_call
returns c =
    let bytes = mapped cell_bytes cell_answer entered (λ _. refl) (λ _. refl) c.award.result c.map.result c.map.ensures.cases in
    let s = says-within 9 _ c.args.cell.now (search rules) _ (bytes ∙ ap (spelled cell_bytes) c.award.ensures) (c.put.ensures.number, c.put.ensures.left) in
    record { number = s.0; left = s.1 }
