-- The sheet (docs/RULES.md, 12): a text of scores, one a line, gives the table of Law 78A, or the first line that is refused. It knows no tally: the
-- table is made of the list of scores alone. Bytes are ASCII codes.
-- Assumes nothing.
use Rattle.std.specs.Prelude.{ℕ, suc, Bool, not, ◌&&◌, ◌||◌, List, [], ◌∷◌, ◌++◌, map, ltb, leb, eqb, ℤ, pos, neg_ℤ, length, drop, if◌then◌else◌}
use Rattle.std.specs.Int.Signed.{lt_z}
use Rattle.laws.specs.Decimal.{zero_digit, minus, starts_with, decimal, signed_decimal, is_number, value}
use Rattle.laws.specs.Law77.{valid_score}
use Rattle.laws.specs.Law78.{same_score, occurrences, ns_matchpoints, ew_matchpoints}
use Rattle.laws.specs.Tally.{capacity}

-- ---- lines
-- the byte that ends a line
abbrev pub newline : ℕ
newline = 10

-- a byte in front of the first line; without a line, a line of its own
unfoldable pub before : ℕ → List (List ℕ) → List (List ℕ)
before b [] = (b ∷ []) ∷ []
before b (line ∷ lines) = (b ∷ line) ∷ lines

-- the lines of a text: each ends in a newline, which the last one may lack
unfoldable pub lines_of : List ℕ → List (List ℕ)
lines_of [] = []
lines_of (b ∷ bytes) = if eqb b newline then ([] ∷ lines_of bytes) else before b (lines_of bytes)

-- ---- a score on a line
-- a line is `0`
unfoldable pub is_zero : List ℕ → Bool
is_zero line = eqb (length line) 1 && starts_with zero_digit line

-- a text is a digit 1 to 9 and at most three digits more
unfoldable pub is_size : List ℕ → Bool
is_size bytes = not (starts_with zero_digit bytes) && (leb (length bytes) 4 && is_number bytes)

-- a line without its minus, if it starts with one
abbrev pub unsigned : List ℕ → List ℕ
unsigned line = if starts_with minus line then drop 1 line else line

-- the score that a line says
unfoldable pub score_of : List ℕ → ℤ
score_of line = if starts_with minus line then neg_ℤ (pos (value (drop 1 line))) else pos (value line)

-- a line says a score: it is `0`, or an optional minus, a digit 1 to 9 and at most three digits more; and the score is valid
unfoldable pub is_score : List ℕ → Bool
is_score line = (is_zero line || is_size (unsigned line)) && valid_score (score_of line)

-- the number of the first line that says no score or is past the 128th, counted from k; 0 if there is none
unfoldable pub refused_line : ℕ → List (List ℕ) → ℕ
refused_line k [] = 0
refused_line k (line ∷ lines) = if not (is_score line) || ltb capacity k then k else refused_line (suc k) lines

-- ---- the table
-- a score in its place among scores that fall, once
unfoldable pub insert : ℤ → List ℤ → List ℤ
insert score [] = score ∷ []
insert score (s ∷ falling) =
    if lt_z score s then (s ∷ insert score falling)
    else if same_score score s then (score ∷ falling)
    else (score ∷ s ∷ falling)

-- the distinct scores of a list, highest first
unfoldable pub distinct : List ℤ → List ℤ
distinct [] = []
distinct (s ∷ results) = insert s (distinct results)

-- four fields with a space between two, and a newline
abbrev pub fields : List ℕ → List ℕ → List ℕ → List ℕ → List ℕ
fields a b c d = a ++ (32 ∷ b) ++ (32 ∷ c) ++ (32 ∷ d) ++ (newline ∷ [])

-- NS-SCORE COUNT NS-MP EW-MP
unfoldable pub header : List ℕ
header =
    fields (78 ∷ 83 ∷ 45 ∷ 83 ∷ 67 ∷ 79 ∷ 82 ∷ 69 ∷ [])
    (67 ∷ 79 ∷ 85 ∷ 78 ∷ 84 ∷ [])
    (78 ∷ 83 ∷ 45 ∷ 77 ∷ 80 ∷ [])
    (69 ∷ 87 ∷ 45 ∷ 77 ∷ 80 ∷ [])

-- a score's row: the score, its count, and the matchpoints of NS and of EW for one such result, by Law 78A on the whole list
unfoldable pub row : List ℤ → ℤ → List ℕ
row results score =
    fields (signed_decimal score)
    (decimal (occurrences score results))
    (decimal (ns_matchpoints results score))
    (decimal (ew_matchpoints results score))

-- the rows of some scores, given the row of each
unfoldable pub rows : (ℤ → List ℕ) → List ℤ → List ℕ
rows row_of [] = []
rows row_of (s ∷ scores) = row_of s ++ rows row_of scores

-- the table: the header, and a row for each distinct score, highest first
unfoldable pub table : List ℤ → List ℕ
table results = header ++ rows (row results) (distinct results)

-- line k refused
unfoldable pub refusal : ℕ → List ℕ
refusal k =
    (108 ∷ 105 ∷ 110 ∷ 101 ∷ 32 ∷ []) ++ decimal k
    ++ (32 ∷ 114 ∷ 101 ∷ 102 ∷ 117 ∷ 115 ∷ 101 ∷ 100 ∷ newline ∷ [])

-- ---- the sheet
-- what some lines give: where one is refused that alone, else a table of their scores
unfoldable pub tabled : (List ℤ → List ℕ) → List (List ℕ) → List ℕ
tabled table_of lines = if eqb (refused_line 1 lines) 0 then table_of (map score_of lines) else refusal (refused_line 1 lines)

-- the sheet of a text
unfoldable pub sheet : List ℕ → List ℕ
sheet bytes = tabled table (lines_of bytes)
