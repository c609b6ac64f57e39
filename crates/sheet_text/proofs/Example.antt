-- The example sheet of docs/RULES.md, by evaluating the definition. Assumes nothing.
use Prim.Native.Nat.{ℕ}
use mathlib.Core.Path.{◌≡◌, refl}
use mathlib.Core.List.{List, [], ◌∷◌}
use Rattle.laws.specs.Choice.{how_many}
use Rattle.laws.specs.Decimal.{starts_with, last_digits, decimal, signed_decimal, all_digits, is_number, value_after}
use Rattle.laws.specs.Law77.{valid_score}
use Rattle.laws.specs.Law78.{occurrences, comparison, comparisons, others, ns_matchpoints, ew_matchpoints}
use Rattle.laws.specs.Sheet.{before, lines_of, is_zero, is_size, score_of, is_score, refused_line, insert}
use Rattle.laws.specs.Sheet.{distinct, header, row, rows, table, refusal, tabled, sheet}

-- `420`, `420`, `-50`, `450`
abbrev scores : List ℕ
scores =
    52 ∷ 50 ∷ 48 ∷ 10 ∷ 52 ∷ 50 ∷ 48 ∷ 10 ∷ 45 ∷ 53 ∷ 48 ∷ 10 ∷ 52 ∷ 53 ∷ 48 ∷ 10 ∷ []

-- the header; `450 1 6 0`, `420 2 3 3`, `-50 1 0 6`
abbrev printed : List ℕ
printed =
    78 ∷ 83 ∷ 45 ∷ 83 ∷ 67 ∷ 79 ∷ 82 ∷ 69 ∷ 32 ∷ 67 ∷ 79 ∷ 85 ∷ 78 ∷ 84 ∷ 32 ∷ 78 ∷ 83 ∷ 45 ∷ 77 ∷ 80 ∷ 32 ∷ 69 ∷ 87 ∷ 45 ∷ 77
    ∷ 80 ∷ 10 ∷ 52 ∷ 53 ∷ 48 ∷ 32 ∷ 49 ∷ 32 ∷ 54 ∷ 32 ∷ 48 ∷ 10 ∷ 52 ∷ 50 ∷ 48 ∷ 32 ∷ 50 ∷ 32 ∷ 51 ∷ 32 ∷ 51 ∷ 10 ∷ 45 ∷ 53 ∷ 48
    ∷ 32 ∷ 49 ∷ 32 ∷ 48 ∷ 32 ∷ 54 ∷ 10 ∷ []

pub example : sheet scores ≡ printed
unfolding before lines_of is_zero is_size score_of is_score refused_line insert distinct header row rows table refusal tabled sheet
    starts_with last_digits decimal signed_decimal all_digits is_number value_after
    valid_score occurrences comparison comparisons others ns_matchpoints ew_matchpoints how_many
example = refl
