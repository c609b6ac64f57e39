-- Laws 18, 19, 22 and 27A: the auction, on the history of its calls.
-- A history has the latest call first: in `c ∷ h`, c was called after the calls of h. Calls are numbers: 0 pass, 1 double, 2 redouble,
-- 3 to 37 the bids, 3 + 5 × (level - 1) + strain. Among them may stand marks, 38: the next call is an insufficient bid that was accepted. A mark is
-- no call and takes no turn. A number from 39 on is neither: no Law allows it.
-- Assumes nothing.
use Rattle.std.specs.Prelude.{ℕ, suc, ◌+◌, ◌-◌, ◌/◌, ◌%◌, Bool, true, false, not, ◌&&◌, ◌||◌, List, [], ◌∷◌, eqb, ltb, leb, length, if◌then◌else◌}
use Rattle.laws.specs.Choice.{how_many}
use Rattle.laws.specs.Cards.{no_seat, clockwise, side_of, same_side}

abbrev pub pass : ℕ
pass = 0

abbrev pub double : ℕ
double = 1

abbrev pub redouble : ℕ
redouble = 2

-- the mark of Law 27A
abbrev pub mark : ℕ
mark = 38

abbrev pub is_bid : ℕ → Bool
is_bid c = leb 3 c && leb c 37

-- the level of a bid, 1 to 7
unfoldable pub level_of : ℕ → ℕ
level_of bid = (bid - 3) / 5 + 1

-- the strain of a bid: a suit, or 4 for notrump
unfoldable pub strain_of : ℕ → ℕ
strain_of bid = (bid - 3) % 5

-- how many codes, calls and marks, stand before the next one: its place, counted from 0
unfoldable pub codes_before : List ℕ → ℕ
codes_before h = length h

-- how many calls have been made: marks are not counted
unfoldable pub calls_made : List ℕ → ℕ
calls_made h = how_many (λ c. not (eqb c mark)) h

-- the latest code is a mark
unfoldable pub is_marked : List ℕ → Bool
is_marked [] = false
is_marked (c ∷ h) = eqb c mark

-- whose turn it is: the dealer calls first, then clockwise
unfoldable pub to_call : ℕ → List ℕ → ℕ
to_call dealer h = clockwise dealer (calls_made h)

-- the last bid; 0 before the first
unfoldable pub last_bid : List ℕ → ℕ
last_bid [] = 0
last_bid (c ∷ h) = if is_bid c then c else last_bid h

-- who made the last bid; nobody before the first
unfoldable pub last_bidder : ℕ → List ℕ → ℕ
last_bidder dealer [] = no_seat
last_bidder dealer (c ∷ h) = if is_bid c then to_call dealer h else last_bidder dealer h

-- a pass or a mark
abbrev pub is_pass_or_mark : ℕ → Bool
is_pass_or_mark c = eqb c pass || eqb c mark

-- the history back to its latest call that is no pass
unfoldable pub before_passes : List ℕ → List ℕ
before_passes [] = []
before_passes (c ∷ h) = if is_pass_or_mark c then before_passes h else (c ∷ h)

-- the latest call is a bid by a player of the other side than the seat's
unfoldable pub bid_by_opponents : ℕ → ℕ → List ℕ → Bool
bid_by_opponents dealer seat [] = false
bid_by_opponents dealer seat (c ∷ h) = is_bid c && not (same_side (to_call dealer h) seat)

-- the latest call is a bid by a player of the seat's own side
unfoldable pub bid_by_own_side : ℕ → ℕ → List ℕ → Bool
bid_by_own_side dealer seat [] = false
bid_by_own_side dealer seat (c ∷ h) = is_bid c && same_side (to_call dealer h) seat

-- the latest call is a double, and only passes stand between it and a bid of the seat's own side
unfoldable pub doubled_own_bid : ℕ → ℕ → List ℕ → Bool
doubled_own_bid dealer seat [] = false
doubled_own_bid dealer seat (c ∷ h) = eqb c double && bid_by_own_side dealer seat (before_passes h)

-- there is a bid
unfoldable pub has_bid : List ℕ → Bool
has_bid h = not (eqb (last_bid h) 0)

-- Law 18: a bid is above the last bid
unfoldable pub sufficient : List ℕ → ℕ → Bool
sufficient h bid = ltb (last_bid h) bid

-- Law 27A: a bid that is accepted though it is not above the last: there is a last bid, and it is at or below it
unfoldable pub at_or_below : List ℕ → ℕ → Bool
at_or_below h bid = has_bid h && leb bid (last_bid h)

-- Law 19A: a double is of the other side's bid, with only passes since
unfoldable pub may_double : ℕ → List ℕ → Bool
may_double dealer h = bid_by_opponents dealer (to_call dealer h) (before_passes h)

-- Law 19B: a redouble is of a double of one's own side's bid, with only passes since
unfoldable pub may_redouble : ℕ → List ℕ → Bool
may_redouble dealer h = doubled_own_bid dealer (to_call dealer h) (before_passes h)

-- how many passes have been made in a row; a mark does not break the row
unfoldable pub passes_in_a_row : List ℕ → ℕ
passes_in_a_row [] = 0
passes_in_a_row (c ∷ h) =
    if eqb c pass then suc (passes_in_a_row h)
    else if eqb c mark then passes_in_a_row h
    else 0

-- Law 22: the auction ends at three passes in a row after a bid (A), or at four opening passes (B)
unfoldable pub is_over : List ℕ → Bool
is_over h = if has_bid h then leb 3 (passes_in_a_row h) else leb 4 (passes_in_a_row h)

-- Law 22B: an auction that is over without a bid is passed out
unfoldable pub passed_out : List ℕ → Bool
passed_out h = not (has_bid h)

-- Laws 18, 19, 22 and 27A: the code is allowed after the calls h. After a mark that is a bid at or below the last one and nothing else; what may
-- follow a mark is said there, so that a mark is allowed wherever the auction is not over
unfoldable pub allowed : ℕ → List ℕ → ℕ → Bool
allowed dealer h c =
    if is_over h then false
    else if is_marked h then is_bid c && at_or_below h c
    else if is_pass_or_mark c then true
    else if eqb c double then may_double dealer h
    else if eqb c redouble then may_redouble dealer h
    else is_bid c && sufficient h c

-- the doubling of the last bid: 0, 1 doubled, 2 redoubled
unfoldable pub doubling : List ℕ → ℕ
doubling [] = 0
doubling (c ∷ h) =
    if is_bid c then 0
    else if eqb c double then 1
    else if eqb c redouble then 2
    else doubling h

-- the call is a bid in the strain, by the side of the player whose turn it is after h
unfoldable pub bids_strain : ℕ → ℕ → ℕ → List ℕ → ℕ → Bool
bids_strain dealer side strain h c = is_bid c && (eqb (strain_of c) strain && eqb (side_of (to_call dealer h)) side)

-- the first player of a side to have bid a strain; nobody where none has
unfoldable pub first_to_bid : ℕ → ℕ → ℕ → List ℕ → ℕ
first_to_bid dealer side strain [] = no_seat
first_to_bid dealer side strain (c ∷ h) =
    if not (eqb (first_to_bid dealer side strain h) no_seat) then first_to_bid dealer side strain h
    else if bids_strain dealer side strain h c then to_call dealer h
    else no_seat

-- the contract: the last bid with its doubling, and its declarer
pub record Contract : Type 0 where
  pub level : ℕ
  pub strain : ℕ
  pub doubling : ℕ
  pub declarer : ℕ

-- Definitions, "declarer": the first player of the side that made the last bid to have bid its strain
unfoldable pub declarer : ℕ → List ℕ → ℕ
declarer dealer h = first_to_bid dealer (side_of (last_bidder dealer h)) (strain_of (last_bid h)) h

unfoldable pub contract : ℕ → List ℕ → Contract
contract dealer h =
    record {
      level = level_of (last_bid h);
      strain = strain_of (last_bid h);
      doubling = doubling h;
      declarer = declarer dealer h;
    }

-- the strain of the contract, as the play's trump, after the calls h
unfoldable pub trump_after : List ℕ → ℕ
trump_after h = strain_of (last_bid h)

-- Law 41A: the seat after declarer leads first
unfoldable pub opening_after : ℕ → List ℕ → ℕ
opening_after d h = clockwise (declarer d h) 1
