-- `transfer::is_repeat` meets its contract. Assumes nothing.
use Rattle.std.proofs.Common.{◌≡◌, ℕ, ◌%◌, eqb, length, get_or, arith, rules, ◌∙◌}
use borrow.Author.Tests.{tests}
use Rattle.std.proofs.lemmas.Iterator.{YieldsList-from_slice}
use Rattle.std.proofs.lemmas.Iterator.Search.{any_from_yields_List}
use Rattle.transfer.proofs.Lists.{any-before}
use Rattle.transfer.proofs.is_repeat.Goals as goal

pub returns : goal.returns
returns c free f =
    let list = c.args.list in
    let n : length list ≡ 48 = search rules in
    let mine = get_or list c.args.i 0 in
    any_from_yields_List (λ (b : ℕ). eqb (b % 16) (mine % 16)) _ _ c.any.result c.any.ensures.ran
    (YieldsList-from_slice _ c.iter.ensures.rest) (λ x b q k. search (rules, tests))
    ∙ any-before mine f c.args.i list free (omega arith)
