-- What a team match prints. Bytes are ASCII codes.
-- Assumes nothing.
use Rattle.std.specs.Prelude.{ℕ, List, [], ◌∷◌, ◌++◌, ℤ}
use Rattle.laws.specs.Decimal.{signed_decimal}
use Rattle.laws.specs.Refusals.{Answer, refused, answered}
use Rattle.laws.specs.Sheet.{newline}
use Rattle.text.specs.Refused.{refused_text}

-- the IMPs of a board
abbrev pub imps_text : ℤ → List ℕ
imps_text z = signed_decimal z ++ (newline ∷ [])

-- what a board is answered: its IMPs, or `refused N`
unfoldable pub board_text : Answer ℤ → List ℕ
board_text (refused n) = refused_text n
board_text (answered z) = imps_text z

-- `TOTAL A B`
abbrev pub totals_text : ℤ → ℤ → List ℕ
totals_text first second =
    ((((84 ∷ 79 ∷ 84 ∷ 65 ∷ 76 ∷ 32 ∷ []) ++ signed_decimal first) ++ (32 ∷ [])) ++ signed_decimal second) ++ (newline ∷ [])
