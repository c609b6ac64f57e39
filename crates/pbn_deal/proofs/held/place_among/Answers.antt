-- `pbn_deal::held::place_among` meets its contract. Assumes nothing.
use Rattle.std.proofs.Common.{ℕ, eqb, rules}
use borrow.Author.Tests.{tests}
use Rattle.std.proofs.lemmas.Iterator.{YieldsList-from_slice}
use Rattle.std.proofs.lemmas.Iterator.Search.{position_from_yields_List}
use Rattle.pbn_deal.proofs.HeldCards.{placed}
use Rattle.pbn_deal.proofs.held.place_among.Goals as goal

pub returns : goal.returns
returns c =
    let first = position_from_yields_List (λ (b : ℕ). eqb b c.args.byte) _ _ c.position.result c.position.ensures.ran
    (YieldsList-from_slice _ c.iter.ensures.rest) (λ x b q k. search (rules, tests)) in
    placed c.args.letters.now c.args.byte first c.unwrap_or.ensures
