-- `transfer::side_revoked` meets its contract. Assumes nothing.
use Rattle.std.proofs.Common.{◌≡◌, ℕ, ◌/◌, ◌%◌, eqb, length, take, rules, ap, ◌∙◌}
use borrow.Author.Tests.{tests}
use Rattle.std.specs.List.{list_any}
use Rattle.std.proofs.lemmas.Iterator.{YieldsList-from_slice}
use Rattle.std.proofs.lemmas.Iterator.Search.{any_from_yields_List}
use Rattle.transfer.proofs.Lists.{side-listed}
use Rattle.transfer.proofs.side_revoked.Goals as goal

pub returns : goal.returns
returns c =
    let rs = c.args.rs in
    let n : length rs.list ≡ 48 = search rules in
    let f : length rs.excused ≡ 48 = search rules in
    any_from_yields_List (λ (b : ℕ). eqb (b / 4 % 2) c.args.side) _ _ c.any.result c.any.ensures.ran
    (YieldsList-from_slice _ c.iter.ensures.rest) (λ x b q k. search (rules, tests))
    ∙ ap (λ k. list_any (λ (b : ℕ). eqb (b / 4 % 2) c.args.side) (take k rs.list)) c.min-count.ensures
    ∙ side-listed rs n f c.args.side
