-- Boards and scores as a script says them. Assumes nothing.
use Rattle.std.specs.Prelude.{ℕ, List, ltb, ℤ, pos, negsuc, neg_ℤ, drop, Option, if◌then◌else◌}
use Rattle.std.specs.Option.{option_map}
use Rattle.laws.specs.Decimal.{minus, starts_with}
use Rattle.decimal.specs.Numbers.{number_on}

-- a number as a board: one beyond the parameter's type is passed as 0, which no call takes as a board
abbrev pub board_in : ℕ → ℕ
board_in n = if ltb 255 n then 0 else n

-- a number as a score: one beyond the parameter's type is passed as the largest of the type, which is refused with 20
abbrev pub plus_in : ℕ → ℤ
plus_in n = if ltb 32767 n then pos 32767 else pos n

-- a number with a minus as a score: one beyond the type is passed as the least of the type
abbrev pub minus_in : ℕ → ℤ
minus_in n = if ltb 32767 n then negsuc 32767 else neg_ℤ (pos n)

-- a score: an optional minus and one to five digits
unfoldable pub score_on : List ℕ → Option ℤ
score_on bytes =
    if starts_with minus bytes then option_map minus_in (number_on (drop 1 bytes))
    else option_map plus_in (number_on bytes)
