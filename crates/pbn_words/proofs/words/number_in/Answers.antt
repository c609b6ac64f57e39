-- `pbn_words::words::number_in` meets its contract: the numbers are looked through from the highest. Assumes nothing.
use Rattle.std.proofs.Common.{ℕ, rules, ◌∙◌, sym}
use borrow.Author.Tests.{tests}
use Rattle.std.proofs.lemmas.Iterator.Search.{find_from_yields_List}
use Rattle.std.proofs.lemmas.Iterator.Adapters.{option_map_id}
use Rattle.laws.specs.PbnText.{call_word, card_word}
use Rattle.laws.specs.PbnReading.{same_bytes}
use Rattle.pbn_words.proofs.Searched.{counted_down, searched}
use Rattle.pbn_words.proofs.words.number_in.Goals as goal

pub returns-then-cards : goal.returns-then-cards
returns-then-cards c =
    let word = c.args.word.now in
    rw c.if-cards.true
    (sym (option_map_id c.find.result)
    ∙ find_from_yields_List (λ (k : ℕ). same_bytes (card_word k) word) _ _ c.find.result c.find.ensures.ran
    (counted_down c.rev.result 52 c.rev.ensures.source) (λ x b q k. search (rules, tests))
    ∙ searched card_word word 52)

pub returns : goal.returns
returns c =
    let word = c.args.word.now in
    rw c.if-cards.false
    (sym (option_map_id c.find-2.result)
    ∙ find_from_yields_List (λ (k : ℕ). same_bytes (call_word k) word) _ _ c.find-2.result c.find-2.ensures.ran
    (counted_down c.rev-2.result 38 c.rev-2.ensures.source) (λ x b q k. search (rules, tests))
    ∙ searched call_word word 38)
