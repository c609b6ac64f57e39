-- The shares of a result in hundredths of a per cent: what is promised of the call that C makes for them, over all byte strings, trees and lists.
-- Assumes nothing.
use Rattle.std.specs.Prelude.{ℕ, ◌≤◌, ◌≡◌, true, false, List, ℤ, length}
use Rattle.laws.specs.CellSheet.{share, alone_word, two_decimals}
use Rattle.laws.specs.Law77.{valid_score}
use Rattle.laws.specs.Law78.{ns_matchpoints, ew_matchpoints}
use Rattle.laws.specs.Refusals.{refused_at, malformed_tally, invalid_score}
use Rattle.laws.specs.Tally.{Tree, list_of, asked}
use Rattle.tally.specs.InBytes.{tally_in}
use Rattle.tally.specs.Tallies.{well_formed}
use Rattle.hundredths.specs.Shares.{share_in, shares_asked}
use Rattle.tally_calls.specs.Calls.{spelled, result_of, shares_bytes, hundredths_call}
use Rattle.promises_tallies.specs.Demand3Bytes.{left_bytes}
use Rattle.promises_tallies.specs.Percentages.{Compared}
use Rattle.promises_tallies.specs.TallyBytes.{OfCall}

-- ---- the shares over a list of results
pub record OfShares (results : List ℤ) : Type 0 where
  -- 65535 where the list has one result
  pub alone : (points : ℕ) → length results ≡ 1 → share_in results points ≡ 65535
  -- else 0 to 10000 for either side
  pub ns_most : (score : ℤ) → Compared results score → share_in results (ns_matchpoints results score) ≤ 10000
  pub ew_most : (score : ℤ) → Compared results score → share_in results (ew_matchpoints results score) ≤ 10000
  -- and what the sheet with percentages prints is the share with two decimals, or `ALONE`
  pub printed : (points : ℕ) → (length results ≡ 1 → ⊥) → share results points ≡ two_decimals (share_in results points)
  pub printed_alone : (points : ℕ) → length results ≡ 1 → share results points ≡ alone_word

-- the claim
pub record Hundredths : Type 0 where
  -- the number, the bytes and the buffer, as of the other calls
  pub of_hundredths : (tally : List ℕ) (score : ℤ) (holders : List ℕ) → OfCall 4 (hundredths_call tally score holders)
  -- 17, and behind it 20
  pub hundredths_17 : (tally : List ℕ) (score : ℤ) (holders : List ℕ) → well_formed (tally_in tally) ≡ false
      → hundredths_call tally score holders 4 ≡ refused_at malformed_tally 0
  pub hundredths_20 : (tally : List ℕ) (score : ℤ) (holders : List ℕ) → well_formed (tally_in tally) ≡ true → valid_score score ≡ false
      → hundredths_call tally score holders 4 ≡ refused_at invalid_score 0
  -- asked of the bytes that a tree's calls leave: 20, 4 or 28, else the shares over the tree's whole list, or 21
  pub of_tree : (t : Tree) (score : ℤ) (holders : List ℕ)
      → hundredths_call (left_bytes t) score holders 4 ≡ spelled shares_bytes (asked shares_asked (list_of t) (result_of score holders))
  pub of_shares : (results : List ℤ) → OfShares results
