-- Law 68: an agreed claim. It stands at any point of the play, in the middle of a trick too, and says how many of the tricks left go to declarer's side: those
-- that are not complete.
-- Assumes nothing.
use Rattle.std.specs.Prelude.{ℕ, ◌-◌, Bool, ◌&&◌, List, leb, if◌then◌else◌}
use Rattle.laws.specs.Law44.{cards_played, tricks_left}

-- the tricks that go to declarer's side by agreement, or no claim
pub data Claim : Type 0 where
  none : Claim
  agreed : ℕ → Claim

-- the play is at a point for a claim: it has begun and is not over, with 1 to 51 cards played
unfoldable pub at_claim_point : List ℕ → Bool
at_claim_point g = leb 1 (cards_played g) && leb (cards_played g) 51

-- a claim names no more tricks than are left
unfoldable pub claimable : List ℕ → ℕ → Bool
claimable g tricks = leb tricks (tricks_left g)

-- the tricks that a claim gives to declarer's side (the test is true) or to the defenders, of those that are left
unfoldable pub claimed_tricks : Claim → ℕ → Bool → ℕ
claimed_tricks none left declaring = 0
claimed_tricks (agreed tricks) left declaring = if declaring then tricks else (left - tricks)
