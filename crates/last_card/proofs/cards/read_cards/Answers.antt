-- `read_cards` meets its contract: a law of Sections for each way out. Assumes nothing.
use Rattle.std.proofs.Common.{◌∙◌, arith}
use Rattle.std.proofs.lemmas.Result.{err_from_is_err_and}
use Rattle.field.proofs.ThreeBytes.{given-reads, refused_stops}
use Rattle.last_card.proofs.Sections.{cards-short, too_many_cards_lem, cards-read}
use Rattle.last_card.proofs.cards.read_cards.Goals as goal

pub returns-in_err-count : goal.returns-in_err-count
returns-in_err-count c =
    let a = c.args in
    let p = err_from_is_err_and c.from_residual.result c.from_residual.ensures.1 in
    rw (p.1, p.2) (cards-short _ _ _ _ _ _ (refused_stops a.bytes.now a.at 6 (omega arith) c.in_err-count.ensures))

pub returns-then-most_cards-count : goal.returns-then-most_cards-count
returns-then-most_cards-count c =
    rw c.at.ensures
    (too_many_cards_lem _ _ _ _ _ _ _ (given-reads _ c.args.at 6 c.in_ok-count.ensures) (rw c.most_cards.ensures at c.if-most_cards-count.true))

pub returns : goal.returns
returns c =
    c.read_each_card.ensures
    ∙ cards-read _ _ _ _ _ _ _ (given-reads _ c.args.at 6 c.in_ok-count.ensures) (rw c.most_cards.ensures at c.if-most_cards-count.false)
