-- An auction each of whose codes is allowed, and the longest one without a mark: three passes, then every bid in its order, each doubled and redoubled
-- after two passes; how many bytes an accepted record has at the most, and how many first bytes decide what is said of any.
-- A history has the latest call first, as in `Auction`.
-- Assumes nothing.
use Rattle.std.specs.Prelude.{ℕ, zero, suc, ◌+◌, ◌≡◌, true, List, [], ◌∷◌}
use Rattle.laws.specs.Auction.{pass, double, redouble, mark, allowed}

-- each code of the history is allowed after those before it
unfoldable pub AllAllowed : ℕ → List ℕ → Type 0
AllAllowed dealer [] = Unit {0}
AllAllowed dealer (c ∷ h) = (allowed dealer h c ≡ true) × AllAllowed dealer h

-- no code of the history is a mark
unfoldable pub NoMark : List ℕ → Type 0
NoMark [] = Unit {0}
NoMark (c ∷ h) = (c ≡ mark → ⊥) × NoMark h

-- a bid after the calls h, doubled and redoubled, with two passes after each
abbrev pub twice_passed : ℕ → List ℕ → List ℕ
twice_passed bid h = pass ∷ pass ∷ redouble ∷ pass ∷ pass ∷ double ∷ pass ∷ pass ∷ bid ∷ h

-- three passes, and the first n bids in their order, each doubled and redoubled
unfoldable pub bids_in_turn : ℕ → List ℕ
bids_in_turn zero = pass ∷ pass ∷ pass ∷ []
bids_in_turn (suc n) = twice_passed (3 + n) (bids_in_turn n)

-- all 35 bids, and a third pass after the last: an auction of 319 calls
unfoldable pub longest_auction : List ℕ
longest_auction = pass ∷ bids_in_turn 35

-- an accepted record has at most so many bytes: 440, as many as 511 codes of calls and marks and 52 cards need, and 65 for forty codes of thirteen bits
abbrev pub most_bytes : ℕ
most_bytes = 505

-- the judge says the same of any bytes and of their first so many: of those that an accepted record can have, and one more
abbrev pub deciding_bytes : ℕ
deciding_bytes = most_bytes + 1
