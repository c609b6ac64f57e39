-- `seat_without_thirteen` meets its contract: the first hand without thirteen set bits. Assumes nothing.
use Rattle.std.proofs.Common.{rules, tests, ◌≡◌, ℕ, not}
use Rattle.std.specs.List.{position}
use Rattle.std.proofs.lemmas.Iterator.{YieldsList-from_slice}
use Rattle.std.proofs.lemmas.Iterator.Search.{position_from_yields_List}
use lib.Dec.{eqb}
use lib.Count.{ones}
use Rattle.deal.proofs.Thirteen.{first_hand}
use Rattle.deal.proofs.seat_without_thirteen.Goals as goal

pub returns-clause-first : goal.returns-clause-first
returns-clause-first c =
    let e : c.position.result ≡ position (λ (hand : ℕ). not (eqb (ones hand) 13)) c.args.hands =
    position_from_yields_List (λ (hand : ℕ). not (eqb (ones hand) 13)) _ _ c.position.result c.position.ensures.ran
    (YieldsList-from_slice _ c.iter.ensures.rest) (λ x b q k. search (rules, tests)) in
    rw e (first_hand _ 4 (search rules))
