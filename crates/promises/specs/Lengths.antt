-- How long an auction and a record can be, and the longest of each.
-- A history has the latest code first; `calls` are in their order, as a record has them.
-- Assumes nothing.
use Rattle.std.specs.Prelude.{ℕ, zero, suc, ◌+◌, ◌≤◌, ◌<◌, ◌≡◌, true, List, [], ◌∷◌, reverse, length, get_or}
use Rattle.laws.specs.Bytes.{Bytes}
use Rattle.laws.specs.Auction.{pass, mark, is_over, allowed}
use Rattle.laws.specs.Law68.{none}
use Rattle.laws.specs.Events.{as_events, codes_of}
use Rattle.laws.specs.Record.{Parts, encode}
use Rattle.laws.specs.Judge.{Outcome.accepted, Rooms, least_rooms, judge_of}
use Rattle.laws.specs.Lawful.{first_of, Lawful}
use Rattle.laws.specs.Lengths.{AllAllowed, NoMark, longest_auction}
use Rattle.promises.specs.Demand2.{one_suit_each}

-- n tricks, from a rank on: a club, a diamond, a heart and a spade of one rank to each
unfoldable pub ranks_in_turn : ℕ → ℕ → List ℕ
ranks_in_turn zero rank = []
ranks_in_turn (suc n) rank = rank ∷ (13 + rank) ∷ (26 + rank) ∷ (39 + rank) ∷ ranks_in_turn n (suc rank)

-- each seat has a suit; after the longest auction West plays seven notrump redoubled, and North leads and wins every trick
unfoldable pub longest_parts : Parts
longest_parts = record { board = 1; table = 1; deal = one_suit_each; calls = reverse longest_auction; plays = as_events (ranks_in_turn 13 0); claim = none }

-- one club again and again, so many times, each accepted though it is not above the last; then three passes
unfoldable pub one_club_again : ℕ → List ℕ
one_club_again zero = pass ∷ pass ∷ pass ∷ []
one_club_again (suc n) = mark ∷ 3 ∷ one_club_again n

-- the same deal and cards; three players pass, and West opens one club, which is bid 252 times more, last by West: 511 codes of calls, and West plays it
unfoldable pub marked_parts : Parts
marked_parts =
    record { board = 1; table = 1; deal = one_suit_each; calls = pass ∷ pass ∷ pass ∷ 3 ∷ one_club_again 252; plays = as_events (ranks_in_turn 13 0); claim = none }

pub record Lengths : Type 0 where
  -- an auction without a mark each of whose calls is allowed after those before it has at most 319 calls
  pub most_calls : (dealer : ℕ) (h : List ℕ) → AllAllowed dealer h → NoMark h → length h ≤ 319
  -- the same where each call is allowed at its place
  pub most_calls_in_order : (dealer : ℕ) (calls : List ℕ)
      → ((k : ℕ) → k < length calls → allowed dealer (first_of k calls) (get_or calls k 0) ≡ true)
      → NoMark calls → length calls ≤ 319
  -- one of 319 calls, whoever deals; it is over after them
  pub longest_auction_lem : (dealer : ℕ) → dealer < 4 → AllAllowed dealer longest_auction
  pub longest_unmarked : NoMark longest_auction
  pub longest_over : is_over longest_auction ≡ true
  pub longest_calls : length longest_auction ≡ 319
  -- an accepted record without a mark and without codes among its cards has at most 296 bytes
  pub most_bytes_unmarked : (bytes : List ℕ) → Bytes bytes → (rooms : Rooms) (p : Parts) → judge_of bytes rooms ≡ accepted p
      → NoMark p.calls → codes_of p.plays ≡ 0 → length bytes ≤ 296
  -- one of 296 bytes, with that auction
  pub longest_record : judge_of (encode longest_parts) least_rooms ≡ accepted longest_parts
  pub longest_lawful : Lawful longest_parts
  pub longest_bytes : length (encode longest_parts) ≡ 296
  -- any accepted record without codes among its cards has at most 440 bytes
  pub most_bytes_alone : (bytes : List ℕ) → Bytes bytes → (rooms : Rooms) (p : Parts) → judge_of bytes rooms ≡ accepted p → codes_of p.plays ≡ 0
      → length bytes ≤ 440
  -- one of 440 bytes, with 511 codes of calls
  pub marked_record : judge_of (encode marked_parts) least_rooms ≡ accepted marked_parts
  pub marked_lawful : Lawful marked_parts
  pub marked_codes : length marked_parts.calls ≡ 511
  pub marked_bytes : length (encode marked_parts) ≡ 440
  -- at most forty codes, and 65 bytes more for them: without a mark at most 361, and any accepted record at most 505
  pub most_codes_lem : (bytes : List ℕ) → Bytes bytes → (rooms : Rooms) (p : Parts) → judge_of bytes rooms ≡ accepted p → codes_of p.plays ≤ 40
  pub most_bytes_unmarked_coded : (bytes : List ℕ) → Bytes bytes → (rooms : Rooms) (p : Parts) → judge_of bytes rooms ≡ accepted p
      → NoMark p.calls → length bytes ≤ 361
  pub most_bytes : (bytes : List ℕ) → Bytes bytes → (rooms : Rooms) (p : Parts) → judge_of bytes rooms ≡ accepted p → length bytes ≤ 505
