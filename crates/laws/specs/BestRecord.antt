-- What best play would give from a record's last card on: how many of the tricks left declarer's side takes, or a refusal. The record is read up to its
-- last card as the judge reads it, and refused as the judge refuses it up to there; a claim, padding or bytes behind the last card are not looked at.
-- Assumes nothing.
use Rattle.std.specs.Prelude.{ℕ, ◌-◌, Bool, not, ◌&&◌, List, eqb, leb}
use Rattle.laws.specs.Refusals.{Placed, refused_at, given, refusal_number, no_ending}
use Rattle.laws.specs.Cards.{side_of}
use Rattle.laws.specs.Law2.{dealer}
use Rattle.laws.specs.Auction.{passed_out, declarer, trump_after, opening_after}
use Rattle.laws.specs.Law44.{cards_played, cards_in_trick}
use Rattle.laws.specs.Events.{cards_of}
use Rattle.laws.specs.Reading.{Reading, Reading.refused as stopped, Reading.found as read-to, Reader, ◌>>=◌, ◌>>◌, give, refuse}
use Rattle.laws.specs.LastCard.{ToLastCard, read_to_last_card}
use Rattle.laws.specs.BestPlay.{best_play}

module _ (r : ToLastCard) where
  -- the contract's strain, the opening leader, declarer's side, and the cards played
  abbrev pub trump_in : ℕ
  trump_in = trump_after r.calls

  abbrev pub opening_in : ℕ
  opening_in = opening_after (dealer r.board) r.calls

  abbrev pub side_in : ℕ
  side_in = side_of (declarer (dealer r.board) r.calls)

  abbrev pub cards_in : List ℕ
  cards_in = cards_of r.plays

  -- how many cards are left
  abbrev pub cards_left : ℕ
  cards_left = 52 - cards_played cards_in

  -- there is a contract, at most sixteen cards are left, and no trick is under way
  unfoldable pub is_ending : Bool
  is_ending = not (passed_out r.calls) && (leb cards_left 16 && eqb (cards_in_trick cards_in) 0)

  -- how many of the tricks left declarer's side takes by best play on both sides
  unfoldable pub best_after : ℕ
  best_after = best_play trump_in opening_in r.deal side_in cards_in

-- the judge's refusals up to the last card, then 31, and else the tricks
unfoldable pub read_best : Reader ℕ
read_best = do
  r ← read_to_last_card
  refuse no_ending 0 (not (is_ending r))
  give (best_after r)

abbrev pub answer : Reading ℕ → Placed ℕ
answer (stopped n place) = refused_at n place
answer (read-to tricks at) = given tricks

-- what is answered for the bytes of a record
unfoldable pub best_of : List ℕ → Placed ℕ
best_of bytes = answer (read_best bytes 0)

-- the number returned: the tricks, or refusal × 1024 + place
abbrev pub best_number : Placed ℕ → ℕ
best_number (refused_at n place) = refusal_number n place
best_number (given tricks) = tricks
