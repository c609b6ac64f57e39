-- The shares of both sides in a result, in hundredths of a per cent, over a list of results and in a tally; and what an answer stands for.
-- Assumes nothing.
use Rattle.std.specs.Prelude.{ℕ, ◌+◌, not, List, eqb, ℤ, length, if◌then◌else◌}
use Rattle.laws.specs.CellSheet.{hundredths}
use Rattle.laws.specs.Law77.{valid_score}
use Rattle.laws.specs.Law78.{occurrences, ns_matchpoints, ew_matchpoints}
use Rattle.laws.specs.Percentages.{most_matchpoints}
use Rattle.laws.specs.Refusals.{Answer, refused, answered, Placed, refused_at, given, invalid_score, score_not_in_tally, malformed_tally}
use Rattle.laws.specs.Tally.{Result, asked}
use Rattle.tally.specs.declared.Tally.{Tally}
use Rattle.tally.specs.Tallies.{results_in, well_formed}
use Rattle.std.specs.Prelude as Std
use Rattle.laws.specs.Refused.{number}
use Rattle.laws.specs.declared.Refused.{Refused}
use Rattle.hundredths.specs.declared.Shares.{Shares}

-- what stands for a result that is alone on its board
abbrev pub alone_number : ℕ
alone_number = 65535

-- the shares of both sides for one result
pub record BothShares : Type 0 where
  pub ns : ℕ
  pub ew : ℕ

-- a side's share for so many matchpoints in a list of results: hundredths of a per cent as the sheet with percentages has them
unfoldable pub share_in : List ℤ → ℕ → ℕ
share_in results points = if eqb (length results) 1 then alone_number else hundredths points (most_matchpoints results)

-- asked for a score in a list of results: 20 if it isn't valid, else 21 if the list does not have it, else the shares of both sides
unfoldable pub shares_asked : List ℤ → ℤ → Answer BothShares
shares_asked results score =
    if not (valid_score score) then refused invalid_score
    else if eqb (occurrences score results) 0 then refused score_not_in_tally
    else answered (record { ns = share_in results (ns_matchpoints results score); ew = share_in results (ew_matchpoints results score) })

-- asked for a result of a tally: 17 if the tally isn't well formed, else as for its list of results
unfoldable pub shares_of_tally : Tally → Result → Placed BothShares
shares_of_tally t r = if well_formed t then asked shares_asked (results_in t) r else refused_at malformed_tally 0

-- ---- the code's answers
-- so many points of so many; where none are to be had the result is alone
unfoldable pub share_of : ℕ → ℕ → ℕ
share_of points most = if eqb most 0 then alone_number else hundredths points most

-- the shares by the matchpoints of both sides, which together are those that can be had
unfoldable pub shares_by : ℕ → ℕ → Placed BothShares
shares_by ns ew = given (record { ns = share_of ns (ns + ew); ew = share_of ew (ns + ew) })

-- what the shares of the code are
abbrev pub shares : Shares → BothShares
shares s = record { ns = s.ns; ew = s.ew }

-- what an answer stands for: a refusal by its number and its place, or the shares
abbrev pub share_answer : Std.Result Shares Refused → Placed BothShares
share_answer (Std.Ok s) = given (shares s)
share_answer (Std.Err e) = refused_at (number e.refusal) e.place
