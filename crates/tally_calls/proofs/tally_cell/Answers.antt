-- `tally_cell` meets its contract: a short buffer first, then what the call answers for the tally read and the narrowed score. Assumes nothing.
use borrow.Author.Rules.{rules}
use mathlib.Core.Path.{refl, sym, ap, ◌∙◌, subst}
use mir.Syntax.{w16}
use mir.Val.{SFits}
use mir.Facts.{to_z-of_z}
use Rattle.tally.specs.InBytes.{tally_in}
use Rattle.percentages.specs.Cells.{entered, cell_answer, Numbered}
use Rattle.percentages.proofs.Told.{cell-numbered}
use Rattle.tally_calls.specs.Calls.{spelled, cell_bytes, cell_call}
use Rattle.tally_calls.proofs.Saying.{mapped, says-short, says-within}
use Rattle.tally_calls.proofs.Narrowing.{cell_narrowed}
use Rattle.tally_calls.proofs.tally_cell.Goals as goal

pub returns-then-cell-lt9 : goal.returns-then-cell-lt9
unfolding cell_call
returns-then-cell-lt9 c =
    let s = says-short 9 _ c.args.cell.now c.if-cell-lt9.true c.short.ensures in
    record { number = s.0; left = s.1 }

pub map-requires : goal.map-requires
map-requires c _ is = subst Numbered (sym (ap cell_answer (sym is) ∙ c.cell_of-answer.ensures)) (cell-numbered _ _)

pub returns : goal.returns
unfolding cell_call cell_bytes
returns c =
    let fits : SFits w16 c.narrow_score.result = search rules in
    let asked = rw (to_z-of_z fits, c.narrow_score.ensures, to_z-of_z c.ranges.score, c.read.ensures) at c.cell_of-answer.ensures
    ∙ cell_narrowed (tally_in c.args.tally.now) c.args.holders.now c.args.score in
    let bytes = mapped cell_bytes cell_answer entered (λ _. refl) (λ _. refl) c.cell_of-answer.result c.map.result c.map.ensures.cases in
    let s = says-within 9 _ c.args.cell.now (search rules) _ (bytes ∙ ap (spelled cell_bytes) asked) (c.put.ensures.number, c.put.ensures.left) in
    record { number = s.0; left = s.1 }
