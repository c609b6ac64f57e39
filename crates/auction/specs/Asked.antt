-- What a position answers: the verdict on a code, the end of the auction, the contract. Assumes nothing.
use Rattle.std.specs.Prelude.{ℕ, ◌%◌, Result, Ok, Err, Bool, not, ◌&&◌, eqb, ltb, leb, if◌then◌else◌}
use Rattle.laws.specs.Cards.{same_side}
use Rattle.laws.specs.Auction.{pass, double, redouble, level_of, strain_of}
use Rattle.laws.specs.Refusals.{Placed}
use Rattle.laws.specs.Refused.{number_or_none, placed_by}
use Rattle.laws.specs.CallRefusal.{place_of}
use Rattle.laws.specs.declared.Refusal.{Refusal}
use Rattle.laws.specs.declared.Refusal.TheVariants.{NoCall, CallAfterEnd, InsufficientBid, InadmissibleDouble, WrongMark}
use Rattle.laws.specs.Auction as Law
use Rattle.auction.specs.declared.Auction.{Auction}
use Rattle.auction.specs.declared.Contract.{Contract}
use Rattle.auction.specs.Position.{first_place, seat_at, stands, after_call}

-- what is said of a code: it is allowed, or why not
abbrev pub Verdict : Type 0
Verdict = Result (Unit {0}) Refusal

abbrev pub allow : Verdict
allow = Ok tt

-- no pass is left until the end
unfoldable pub over_of : Auction → Bool
over_of a = eqb a.left 0

-- there is no bid
unfoldable pub passed_out_of : Auction → Bool
passed_out_of a = eqb a.last 0

-- the seat at turn may double: a bid of the other side stands and is not doubled
unfoldable pub may_double_of : Auction → Bool
may_double_of a = stands a 0 && not (same_side a.bidder a.turn)

-- the seat at turn may redouble: a bid of its own side stands and is doubled
unfoldable pub may_redouble_of : Auction → Bool
may_redouble_of a = stands a 1 && same_side a.bidder a.turn

-- the verdict on a code after a mark: a bid at or below the last one is allowed, and else the mark is wrong
unfoldable pub marked_verdict : Auction → ℕ → Verdict
marked_verdict a c = if leb 3 c && leb c a.last then allow else Err WrongMark

-- the verdict on a code: first whether it is a call or a mark, then the end, then what may follow a mark, then the code itself; a mark is above every bid
unfoldable pub verdict_of : Auction → ℕ → Verdict
verdict_of a c =
    if ltb 38 c then Err NoCall
    else if over_of a then Err CallAfterEnd
    else if a.marked then marked_verdict a c
    else if eqb c pass then allow
    else if eqb c double then (if may_double_of a then allow else Err InadmissibleDouble)
    else if eqb c redouble then (if may_redouble_of a then allow else Err InadmissibleDouble)
    else if ltb a.last c then allow
    else Err InsufficientBid

-- the number that a code is refused with, 0 where it is allowed
unfoldable pub refusal_of : Auction → ℕ → ℕ
refusal_of a c = number_or_none (verdict_of a c)

-- the position after a code with so many codes before it; or the number that it is refused with, and its place
unfoldable pub taken_of : Auction → ℕ → ℕ → Placed Auction
taken_of a c before = placed_by (refusal_of a c) (place_of (refusal_of a c) before) (after_call a c)

-- the last bid with its doubling, and the first player of the last bidder's side to have bid its strain
unfoldable pub contract_of : Auction → Contract
contract_of a =
    record {
      level = level_of a.last;
      strain = strain_of a.last;
      doubling = a.doubling % 4;
      declarer = seat_at a.first (first_place a.bidder a.last);
    }

-- a contract of the code as the Laws' contract
abbrev pub as_law : Contract → Law.Contract
as_law k =
    record {
      level = k.level;
      strain = k.strain;
      doubling = k.doubling;
      declarer = k.declarer;
    }
