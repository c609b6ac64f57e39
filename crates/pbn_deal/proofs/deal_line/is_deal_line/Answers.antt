-- `pbn_deal::deal_line::is_deal_line` meets its contract. Assumes nothing.
use Rattle.std.proofs.Common.{◌∙◌, ◌∷◌, [], ap, sym, take}
use Rattle.laws.specs.PbnText.{hands_and, tag_end, deal_tag}
use Rattle.pbn_words.proofs.SameBytes.{pair_by_pair}
use Rattle.pbn_deal.specs.Walks.{follows}
use Rattle.pbn_deal.proofs.Walked.{nowhere}
use Rattle.pbn_deal.proofs.DealLines.{no_tag, with_tag, all_followed}
use Rattle.pbn_deal.proofs.deal_line.is_deal_line.Goals as goal

pub returns-then-not-starts_with : goal.returns-then-not-starts_with
returns-then-not-starts_with c =
    no_tag _ _ _ (sym (c.starts_with.ensures.value ∙ pair_by_pair deal_tag (take 7 c.args.line.now)) ∙ c.if-not-starts_with.true)

pub returns-in-Some : goal.returns-in-Some
returns-in-Some c =
    let line = c.args.line.now in
    let tag = sym (c.starts_with.ensures.value ∙ pair_by_pair deal_tag (take 7 line)) ∙ c.if-not-starts_with.false in
    let hands = hands_and c.args.first c.args.holders tag_end in
    all_followed line c.in-Some.end
    ∙ sym
    (with_tag line c.args.first c.args.holders tag
    ∙ rw (← c.seat_letter.ensures) (c.over_byte-seat.ensures (58 ∷ hands))
    ∙ c.over_byte-colon.ensures hands
    ∙ c.over_hands-hands.ensures tag_end
    ∙ c.over_byte-quote.ensures (93 ∷ [])
    ∙ c.over_byte.ensures []
    ∙ ap (λ p. follows line p []) c.in-Some.is)

pub returns-in-None : goal.returns-in-None
returns-in-None c =
    let line = c.args.line.now in
    let tag = sym (c.starts_with.ensures.value ∙ pair_by_pair deal_tag (take 7 line)) ∙ c.if-not-starts_with.false in
    let hands = hands_and c.args.first c.args.holders tag_end in
    sym
    (with_tag line c.args.first c.args.holders tag
    ∙ rw (← c.seat_letter.ensures) (c.over_byte-seat.ensures (58 ∷ hands))
    ∙ c.over_byte-colon.ensures hands
    ∙ c.over_hands-hands.ensures tag_end
    ∙ c.over_byte-quote.ensures (93 ∷ [])
    ∙ c.over_byte.ensures []
    ∙ ap (λ p. follows line p []) c.in-None.is
    ∙ nowhere line [])
