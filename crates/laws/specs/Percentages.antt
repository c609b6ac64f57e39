-- The cells of a page of results, with percentages as 64-bit floats: of a played result by Law 78A's matchpoints, of an awarded one by Law 12C2.
-- Floats are IEEE 754's binary64. A cell is the page's term for what stands there for one result.
-- Assumes nothing.
use Rattle.std.specs.Prelude.{ℕ, ◌-◌, ◌*◌, Bool, not, ◌||◌, List, eqb, Float, ℤ, pos, length, if◌then◌else◌}
use Rattle.std.specs.Float.{binary64}
use Rattle.std.specs.Float.Ieee.{of_int, div}
use Rattle.laws.specs.Refusals.{Answer, refused, answered, invalid_score, score_not_in_tally}
use Rattle.laws.specs.Law77.{valid_score}
use Rattle.laws.specs.Law78.{occurrences, ns_matchpoints, ew_matchpoints}

-- the most matchpoints that one result can have: two for each other result
unfoldable pub most_matchpoints : List ℤ → ℕ
most_matchpoints results = 2 * (length results - 1)

-- a whole number as a float
abbrev pub as_float : ℕ → Float
as_float n = of_int binary64 (pos n)

-- so many points of so many, as a percentage: 100 times the first and the second are whole numbers held exactly, and the one division rounds once
unfoldable pub percentage : ℕ → ℕ → Float
percentage points most = div binary64 (as_float (100 * points)) (as_float most)

-- the percentage of North-South for one result of a score, and that of East-West
unfoldable pub ns_percentage : List ℤ → ℤ → Float
ns_percentage results score = percentage (ns_matchpoints results score) (most_matchpoints results)

unfoldable pub ew_percentage : List ℤ → ℤ → Float
ew_percentage results score = percentage (ew_matchpoints results score) (most_matchpoints results)

-- a played result with the percentage of North-South, an awarded result with its percentage, or a result alone on its board
pub data Cell : Type 0 where
  played : Float → Cell
  awarded : Float → Cell
  alone : Cell

-- the cell of one result of a score
unfoldable pub cell_of : List ℤ → ℤ → Cell
cell_of results score = if eqb (length results) 1 then alone else played (ns_percentage results score)

-- asked for a score in a list of results: 20 if it isn't valid, else 21 if the list does not have it, else its cell
unfoldable pub cell_asked : List ℤ → ℤ → Answer Cell
cell_asked results score =
    if not (valid_score score) then refused invalid_score
    else if eqb (occurrences score results) 0 then refused score_not_in_tally
    else answered (cell_of results score)

-- Law 12C2: 60, 50 or 40 per cent is awarded
unfoldable pub is_award : ℕ → Bool
is_award percent = eqb percent 60 || (eqb percent 50 || eqb percent 40)

-- an award asked for: its cell, or 20 for any other number. It enters no list of results.
unfoldable pub award : ℕ → Answer Cell
award percent = if is_award percent then answered (awarded (as_float percent)) else refused invalid_score
