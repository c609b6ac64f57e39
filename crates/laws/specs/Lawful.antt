-- Which parts make a lawful record: its layout, deal, calls, cards and claim, each by the Laws on histories.
-- Assumes nothing.
use Rattle.std.specs.Prelude.{ℕ, ◌≤◌, ◌<◌, ◌≡◌, true, false, List, [], reverse, length, get_or, take}
use Rattle.laws.specs.Cards.{cards_dealt}
use Rattle.laws.specs.Law2.{dealer}
use Rattle.laws.specs.Auction.{is_over, passed_out, allowed, trump_after, opening_after}
use Rattle.laws.specs.Law44.{all_played}
use Rattle.laws.specs.Events.{cards_of, cards_among, codes_of}
use Rattle.laws.specs.CodeRefusal.{most_codes}
use Rattle.laws.specs.Plays.{EachStands, CardsFollow}
use Rattle.laws.specs.Law68.{Claim, none, agreed, at_claim_point, claimable}
use Rattle.laws.specs.Record.{Parts}

-- the first k members of a list as a history, latest first
abbrev pub first_of : ℕ → List ℕ → List ℕ
first_of k l = reverse (take k l)

-- the layout: each part has a value that its field can hold
pub record Layout (p : Parts) : Type 0 where
  pub board_from : 1 ≤ p.board
  pub board_to : p.board ≤ 127
  pub table_from : 1 ≤ p.table
  pub table_to : p.table ≤ 511
  pub holders : length p.deal ≡ 52
  pub holder : (k : ℕ) → k < 52 → get_or p.deal k 0 ≤ 3
  pub calls : length p.calls ≤ 511
  pub cards : cards_among p.plays ≤ 52

-- Law 1: thirteen cards for each seat
abbrev pub Dealt : Parts → Type 0
Dealt p = (seat : ℕ) → seat < 4 → cards_dealt seat p.deal ≡ 13

-- Laws 18, 19 and 22: each call is allowed after those before it, and the auction is over after all of them
pub record Called (p : Parts) : Type 0 where
  pub each : (k : ℕ) → k < length p.calls → allowed (dealer p.board) (first_of k p.calls) (get_or p.calls k 0) ≡ true
  pub over : is_over (reverse p.calls) ≡ true

-- Laws 44 and 48 to 51: each card is held by the seat at turn after the plays before it, each exposed card can be exposed, and each choice is open; a code
-- has a card after it, and there are at most so many; passed out, no card is played
pub record Played (p : Parts) : Type 0 where
  pub each : EachStands (trump_after (reverse p.calls)) (opening_after (dealer p.board) (reverse p.calls)) p.deal [] p.plays
  pub follow : CardsFollow p.plays
  pub codes : codes_of p.plays ≤ most_codes
  pub none_if_passed_out : passed_out (reverse p.calls) ≡ true → cards_among p.plays ≡ 0

-- Law 68: without a claim a contract needs all 52 cards; a claim needs a contract, a point for it, and tricks that are left
abbrev pub Claimed : List ℕ → List ℕ → Claim → Type 0
Claimed h g none = passed_out h ≡ false → all_played g ≡ true
Claimed h g (agreed tricks) = (passed_out h ≡ false) × (at_claim_point g ≡ true) × (claimable g tricks ≡ true)

pub record Lawful (p : Parts) : Type 0 where
  pub layout : Layout p
  pub deal : Dealt p
  pub calls : Called p
  pub cards : Played p
  pub claim : Claimed (reverse p.calls) (cards_of (reverse p.plays)) p.claim
