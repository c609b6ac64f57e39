-- What best play would give from a record, for every byte string. `judge_best_play` answers `best_number (best_of bytes)`. The record is read up to its last
-- card by the judge's sections (`read_to_last_card`), and refused as the judge refuses it there; else there is an ending, or 31.
-- Assumes nothing.
use Rattle.std.specs.Prelude.{ℕ, ◌≤◌, ◌<◌, ◌≡◌, ◌↔◌, ◌⊎◌, true, List, reverse, take}
use Rattle.laws.specs.Refusals.{refused_at, given, refuses_to_last_card, record_ends, no_ending}
use Rattle.laws.specs.Auction.{passed_out}
use Rattle.laws.specs.Law44.{cards_in_trick, tricks_left}
use Rattle.laws.specs.Record.{Parts}
use Rattle.laws.specs.Reading.{Reading.refused as stopped, Reading.found as read-to}
use Rattle.laws.specs.Judge.{Outcome.refused as declined, Outcome.accepted, Rooms, Enough, judge_of}
use Rattle.laws.specs.Lengths.{most_bytes}
use Rattle.laws.specs.LastCard.{ToLastCard, read_to_last_card}
use Rattle.laws.specs.BestRecord.{trump_in, opening_in, side_in, cards_in, cards_left, best_after, best_of, best_number}
use Rattle.promises.specs.BestPlay.{Ending, BestPlay}

-- no ending: the board is passed out, more than sixteen cards are left, or the play is not at a trick's end
abbrev pub NoEnding : ToLastCard → Type 0
NoEnding r = (passed_out r.calls ≡ true) ⊎ ((16 < cards_left r) ⊎ (cards_in_trick (cards_in r) ≡ 0 → ⊥))

module _ (bytes : List ℕ) where
  -- the record is read up to its last card, as this
  abbrev pub ReadAs : ToLastCard → Type 0
  ReadAs r = (at : ℕ) × (read_to_last_card bytes 0 ≡ read-to r at)

  -- ---- when what is answered
  pub record Answered : Type 0 where
    -- a refusal, exactly when the reading up to the last card is refused so, or it is 31 with place 0 and there is no ending
    pub refused : (n place : ℕ)
        → (best_of bytes ≡ refused_at n place)
        ↔ ((read_to_last_card bytes 0 ≡ stopped n place) ⊎ ((n ≡ no_ending) × (place ≡ 0) × ((r : ToLastCard) × ReadAs r × NoEnding r)))
    -- tricks, exactly when it is read and there is an ending: those of best play
    pub answered : (tricks : ℕ)
        → (best_of bytes ≡ given tricks) ↔ ((r : ToLastCard) × ReadAs r × (NoEnding r → ⊥) × (tricks ≡ best_after r))
    -- the number of a refusal up to the last card is 2 to 12 or 23 to 27, so neither 1 nor 13 to 16, 22, 31 or 33; its place is below 1024
    pub numbered : (n place : ℕ) → read_to_last_card bytes 0 ≡ stopped n place → (refuses_to_last_card n ≡ true) × (place < 1024)
    -- tricks are at most 4, and any refusal is 2048 or more
    pub told_apart : ((tricks : ℕ) × (best_of bytes ≡ given tricks) × (tricks ≤ 4)) ⊎ (2048 ≤ best_number (best_of bytes))

  -- ---- beside the judge, given buffers that are long enough
  pub record AsTheJudge (rooms : Rooms) : Type 0 where
    -- where the reading up to the last card is refused, the judge refuses the record with the same number and place
    pub refuses : (n place : ℕ) → read_to_last_card bytes 0 ≡ stopped n place → judge_of bytes rooms ≡ declined n place
    -- where the judge refuses with a number up to the last card, so does this; 2 can also be that of a claim, which is not looked at here
    pub alike : (n place : ℕ) → judge_of bytes rooms ≡ declined n place → refuses_to_last_card n ≡ true → (n ≡ record_ends → ⊥)
        → best_of bytes ≡ refused_at n place
    pub or_read : (place : ℕ) → judge_of bytes rooms ≡ declined record_ends place
        → (best_of bytes ≡ refused_at record_ends place) ⊎ ((r : ToLastCard) × ReadAs r)
    -- what the judge accepts is read up to its last card: the same board, table, deal, calls and plays
    pub accepts : (p : Parts) → judge_of bytes rooms ≡ accepted p
        → ReadAs (record { board = p.board; table = p.table; deal = p.deal; calls = reverse p.calls; plays = reverse p.plays })

-- ---- what is read is an ending in the sense of the theorems on plans and defences, with declarer's side and the cards played
pub record OfEnding (r : ToLastCard) : Type 0 where
  pub ending : Ending (trump_in r) (opening_in r) r.deal (cards_in r)
  pub theorems : BestPlay (trump_in r) (opening_in r) r.deal (side_in r) (cards_in r)
  -- no more tricks than are left
  pub at_most : best_after r ≤ tricks_left (cards_in r)

-- for every byte string
pub record BestRecord (bytes : List ℕ) : Type 0 where
  pub answers : Answered bytes
  pub judged : (rooms : Rooms) → Enough rooms → AsTheJudge bytes rooms
  pub of_ending : (r : ToLastCard) → ReadAs bytes r → OfEnding r
  -- the first bytes decide, however many follow
  pub first_bytes : best_of bytes ≡ best_of (take most_bytes bytes)
