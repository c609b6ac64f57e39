-- `pbn_words::tags::is_seat_line` meets its contract. Assumes nothing.
use Rattle.std.proofs.Common.{◌-◌, ◌∷◌, ◌∙◌, sym, ap, take, drop, length}
use Rattle.laws.specs.PbnText.{letter_of, seat_letters, tag_end}
use Rattle.laws.specs.PbnReading.{same_bytes}
use Rattle.pbn_words.proofs.SameBytes.{pair_by_pair, equal_bytes}
use Rattle.parts.proofs.PartsOf.{rest-is}
use Rattle.pbn_words.proofs.TagLines.{no_tag, with_tag}
use Rattle.pbn_words.proofs.tags.is_seat_line.Goals as goal

pub returns-then-not-starts_with : goal.returns-then-not-starts_with
returns-then-not-starts_with c =
    let a = c.args in
    no_tag _ _ _ (sym (c.starts_with.ensures.value ∙ pair_by_pair a.tag.now (take (length a.tag.now) a.line.now)) ∙ c.if-not-starts_with.true)

pub returns : goal.returns
returns c =
    let a = c.args in
    let n = length a.tag.now in
    let end = letter_of seat_letters a.seat ∷ tag_end in
    let tag = sym (c.starts_with.ensures.value ∙ pair_by_pair a.tag.now (take n a.line.now)) ∙ c.if-not-starts_with.false in
    rw c.seat_letter.ensures at c.eq.ensures
    ∙ equal_bytes (take (length a.line.now - n) (drop n a.line.now)) end
    ∙ ap (same_bytes end) (rest-is a.line.now n)
    ∙ with_tag _ _ _ tag
