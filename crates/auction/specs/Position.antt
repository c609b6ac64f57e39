-- The position of an auction: before the first call, after one more code, and after a history of calls and marks. It holds no history.
-- Assumes nothing.
use Rattle.std.specs.Prelude.{ℕ, ◌+◌, ◌-◌, ◌*◌, ◌/◌, ◌%◌, ◌^◌, Bool, false, List, [], ◌∷◌, eqb, if◌then◌else◌}
use Rattle.laws.specs.Cards.{no_seat, clockwise, side_of}
use Rattle.laws.specs.Auction.{pass, double, redouble, mark, is_bid, is_pass_or_mark, strain_of}
use Rattle.auction.specs.declared.Auction.{Auction}

-- the place of a seat's side and a bid's strain among the first bidders
unfoldable pub first_place : ℕ → ℕ → ℕ
first_place seat bid = side_of seat * 5 + strain_of bid

-- the three bits at a place: 0 where nobody stands, else one more than the seat
unfoldable pub entry_at : ℕ → ℕ → ℕ
entry_at word place = word / 2 ^ (3 * place) % 8

-- the seat at a place; a number that is no seat counts modulo 4
unfoldable pub seat_at : ℕ → ℕ → ℕ
seat_at word place = if eqb (entry_at word place) 0 then no_seat else (entry_at word place - 1) % 4

-- the seat at a place where nobody stands, and no change where somebody does; forty bits stay
unfoldable pub entered : ℕ → ℕ → ℕ → ℕ
entered word place seat = word % 2 ^ 40 + (if eqb (entry_at word place) 0 then 1 else 0) * (seat % 4 + 1) * 2 ^ (3 * place)

-- the last bid stands, with that doubling: the position has 4 more than the doubling of a bid that stands
unfoldable pub stands : Auction → ℕ → Bool
stands a doubling = eqb a.doubling (4 + doubling)

-- how many passes in a row end the auction: four before a bid, three after one
unfoldable pub passes_to_end : ℕ → ℕ
passes_to_end last = if eqb last 0 then 4 else 3

-- before the first call; a dealer's number counts modulo 4
unfoldable pub before_calls : ℕ → Auction
before_calls dealer =
    record {
      turn = dealer % 4;
      last = 0;
      bidder = no_seat;
      doubling = 0;
      left = 4;
      first = 0;
      marked = false;
    }

-- after a code: a pass leaves one pass less until the end; a mark takes no turn; what is neither a call nor a mark takes one, and no bid stands after it
unfoldable pub after_call : Auction → ℕ → Auction
after_call a c =
    record {
      turn = if eqb c mark then a.turn else clockwise a.turn 1;
      last = if is_bid c then c else a.last;
      bidder = if is_bid c then a.turn else a.bidder;
      doubling =
          if is_bid c then 4
          else if eqb c double then (if stands a 0 then 5 else 1)
          else if eqb c redouble then 2
          else if is_pass_or_mark c then a.doubling
          else a.doubling % 4;
      left =
          if eqb c pass then a.left - 1
          else if eqb c mark then a.left
          else if is_bid c then 3
          else passes_to_end a.last;
      first = if is_bid c then entered a.first (first_place a.turn c) a.turn else a.first;
      marked = eqb c mark;
    }

-- after a history, the latest code first
unfoldable pub position_of : ℕ → List ℕ → Auction
position_of dealer [] = before_calls dealer
position_of dealer (c ∷ h) = after_call (position_of dealer h) c
