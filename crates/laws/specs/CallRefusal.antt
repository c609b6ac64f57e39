-- The number that a code is refused with after a history of calls, and its place: the code first, then the end of the auction, then what may follow a
-- mark, then Laws 18 and 19.
-- Assumes nothing.
use Rattle.std.specs.Prelude.{ℕ, ◌-◌, Bool, not, List, leb, eqb, if◌then◌else◌}
use Rattle.laws.specs.Refusals.{accepted, no_call, insufficient_bid, inadmissible_double, call_after_end, wrong_mark}
use Rattle.laws.specs.Auction.{mark, is_bid, codes_before, is_marked, is_over, allowed}

-- the code is a call, a pass, a double, a redouble or a bid, or a mark
abbrev pub is_code : ℕ → Bool
is_code c = leb c mark

-- the number, 0 for a code that is allowed; of the others, what follows a mark makes the mark wrong, a bid is insufficient, and else it is a double or a
-- redouble
unfoldable pub call_refusal : ℕ → List ℕ → ℕ → ℕ
call_refusal dealer h c =
    if not (is_code c) then no_call
    else if is_over h then call_after_end
    else if allowed dealer h c then accepted
    else if is_marked h then wrong_mark
    else if is_bid c then insufficient_bid
    else inadmissible_double

-- the place of a refusal at a code with so many codes before it: a wrong mark is the code before
unfoldable pub place_of : ℕ → ℕ → ℕ
place_of n codes = if eqb n wrong_mark then codes - 1 else codes

-- the place where the code is refused after the calls h
unfoldable pub call_place : ℕ → List ℕ → ℕ → ℕ
call_place dealer h c = place_of (call_refusal dealer h c) (codes_before h)
