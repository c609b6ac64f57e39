-- `pbn_words::tags::seat_in` meets its contract: the seats are looked through from the last. Assumes nothing.
use Rattle.std.proofs.Common.{ℕ, rules, ◌∙◌, sym}
use borrow.Author.Tests.{tests}
use Rattle.std.proofs.lemmas.Iterator.Search.{find_from_yields_List}
use Rattle.std.proofs.lemmas.Iterator.Adapters.{option_map_id}
use Rattle.laws.specs.PbnText.{seat_line}
use Rattle.laws.specs.PbnReading.{same_bytes}
use Rattle.pbn_words.proofs.Searched.{counted_down, searched}
use Rattle.pbn_words.proofs.tags.seat_in.Goals as goal

pub returns : goal.returns
returns c =
    let a = c.args in
    sym (option_map_id c.find.result)
    ∙ find_from_yields_List (λ (k : ℕ). same_bytes (seat_line a.tag.now k) a.line.now) _ _ c.find.result c.find.ensures.ran
    (counted_down c.rev.result 4 c.rev.ensures.source) (λ x b q k. search (rules, tests))
    ∙ searched (seat_line a.tag.now) a.line.now 4
