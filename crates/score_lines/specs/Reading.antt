-- What the functions that read a line answer. Assumes nothing.
use Rattle.std.specs.Prelude.{ℕ, suc, Bool, List, [], ◌∷◌, eqb, ℤ, pos, neg_ℤ, Option, Some, None, if◌then◌else◌}
use Rattle.laws.specs.Decimal.{value}
use Rattle.laws.specs.Law77.{valid_score}
use Rattle.laws.specs.Sheet.{newline, is_size, score_of, is_score}

-- how many bytes stand before the first newline
unfoldable pub line_length : List ℕ → ℕ
line_length [] = 0
line_length (b ∷ bytes) = if eqb b newline then 0 else suc (line_length bytes)

-- the value of a digit 1 to 9 and at most three digits more; other bytes say none
unfoldable pub size_on : List ℕ → Option ℕ
size_on bytes = if is_size bytes then Some (value bytes) else None

-- a score, where it is valid
unfoldable pub if_valid : ℤ → Option ℤ
if_valid score = if valid_score score then Some score else None

-- a number as a score
unfoldable pub positive_of : Option ℕ → Option ℤ
positive_of (Some size) = if_valid (pos size)
positive_of None = None

-- a number with a minus as a score
unfoldable pub negative_of : Option ℕ → Option ℤ
negative_of (Some size) = if_valid (neg_ℤ (pos size))
negative_of None = None

-- a number as a score, with a minus or without one
abbrev pub signed_of : Bool → Option ℕ → Option ℤ
signed_of minus n = if minus then negative_of n else positive_of n

-- the score on a line, where it says one
unfoldable pub said_on : List ℕ → Option ℤ
said_on line = if is_score line then Some (score_of line) else None
