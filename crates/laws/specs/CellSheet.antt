-- The sheet with percentages: a text of scores, read as the sheet's, gives a table with percentages to two decimals in place of matchpoints.
-- Bytes are ASCII codes.
-- Assumes nothing.
use Rattle.std.specs.Prelude.{ℕ, ◌+◌, ◌*◌, ◌/◌, ◌%◌, List, [], ◌∷◌, ◌++◌, eqb, ℤ, length, if◌then◌else◌}
use Rattle.laws.specs.Decimal.{digit, decimal, signed_decimal}
use Rattle.laws.specs.Law78.{occurrences, ns_matchpoints, ew_matchpoints}
use Rattle.laws.specs.Percentages.{most_matchpoints}
use Rattle.laws.specs.Sheet.{lines_of, distinct, fields, rows, tabled}

-- hundredths of a per cent, rounded half up from the exact fraction, not from the float: the whole part of 10000 × points / most + 1/2
unfoldable pub hundredths : ℕ → ℕ → ℕ
hundredths points most = (20000 * points + most) / (2 * most)

-- a number of hundredths with two decimals
unfoldable pub two_decimals : ℕ → List ℕ
two_decimals n = decimal (n / 100) ++ (46 ∷ []) ++ (digit (n / 10 % 10) ∷ []) ++ (digit (n % 10) ∷ [])

-- `ALONE`
abbrev pub alone_word : List ℕ
alone_word = 65 ∷ 76 ∷ 79 ∷ 78 ∷ 69 ∷ []

-- a side's percentage for so many matchpoints, with two decimals; `ALONE` where the board has one result
unfoldable pub share : List ℤ → ℕ → List ℕ
share results points = if eqb (length results) 1 then alone_word else two_decimals (hundredths points (most_matchpoints results))

-- NS-SCORE COUNT NS-% EW-%
unfoldable pub cell_header : List ℕ
cell_header =
    fields (78 ∷ 83 ∷ 45 ∷ 83 ∷ 67 ∷ 79 ∷ 82 ∷ 69 ∷ [])
    (67 ∷ 79 ∷ 85 ∷ 78 ∷ 84 ∷ [])
    (78 ∷ 83 ∷ 45 ∷ 37 ∷ [])
    (69 ∷ 87 ∷ 45 ∷ 37 ∷ [])

-- a score's row: the score, its count, and the percentages of NS and of EW for one such result
unfoldable pub cell_row : List ℤ → ℤ → List ℕ
cell_row results score =
    fields (signed_decimal score)
    (decimal (occurrences score results))
    (share results (ns_matchpoints results score))
    (share results (ew_matchpoints results score))

-- the table: the header, and a row for each distinct score, highest first
unfoldable pub cell_table : List ℤ → List ℕ
cell_table results = cell_header ++ rows (cell_row results) (distinct results)

-- the sheet with percentages of a text
unfoldable pub cell_sheet : List ℕ → List ℕ
cell_sheet bytes = tabled cell_table (lines_of bytes)
