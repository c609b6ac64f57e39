-- `are_seats` meets its contract: 52 holders, and none over 3. Assumes nothing.
use Rattle.std.proofs.Common.{rules, tests, ◌≡◌, ℕ}
use Rattle.std.specs.List.{list_all}
use Rattle.std.proofs.lemmas.Iterator.{YieldsList-from_slice}
use Rattle.std.proofs.lemmas.Iterator.Search.{all_from_yields_List}
use lib.Dec.{leb}
use borrow.Author.Tests.{ne_eqb}
use Rattle.deal.proofs.Taking.{not_52, each_seat}
use Rattle.deal.proofs.given.are_seats.Goals as goal

pub returns-then-holders-eq52 : goal.returns-then-holders-eq52
returns-then-holders-eq52 c =
    let e : c.all.result ≡ list_all (λ (holder : ℕ). leb holder 3) c.args.holders.now =
    all_from_yields_List (λ (holder : ℕ). leb holder 3) _ _ c.all.result c.all.ensures.ran
    (YieldsList-from_slice _ c.iter.ensures.rest) (λ x b q k. search (rules, tests)) in
    rw e (each_seat _ c.if-holders-eq52.true)

pub returns-else-holders-eq52 : goal.returns-else-holders-eq52
returns-else-holders-eq52 c = rw (ne_eqb _ _ c.if-holders-eq52.false) (not_52 _ c.if-holders-eq52.false)
