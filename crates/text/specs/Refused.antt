-- The text of a refusal by its number alone. Bytes are ASCII codes. Assumes nothing.
use Rattle.std.specs.Prelude.{ℕ, List, [], ◌∷◌, ◌++◌}
use Rattle.laws.specs.Decimal.{decimal}
use Rattle.laws.specs.Sheet.{newline}

-- `refused N`
abbrev pub refused_text : ℕ → List ℕ
refused_text n = ((114 ∷ 101 ∷ 102 ∷ 117 ∷ 115 ∷ 101 ∷ 100 ∷ 32 ∷ []) ++ decimal n) ++ (newline ∷ [])
