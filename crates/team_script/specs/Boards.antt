-- A line of a team match: a board and its two scores, one space between. Assumes nothing.
use Rattle.std.specs.Prelude.{ℕ, suc, ◌+◌, List, [], ◌∷◌, eqb, take, drop, ℤ, Option, Some, None, if◌then◌else◌}
use Rattle.decimal.specs.Numbers.{number_on}
use Rattle.decimal.specs.Scores.{board_in, score_on}
use Rattle.team_script.specs.declared.Board.{Board}

-- how many bytes stand before the first space
unfoldable pub to_space : List ℕ → ℕ
to_space [] = 0
to_space (b ∷ bytes) = if eqb b 32 then 0 else suc (to_space bytes)

-- the field that bytes start with: those before the first space
unfoldable pub field : List ℕ → List ℕ
field bytes = take (to_space bytes) bytes

-- what is behind that field and its space; nothing where there is no space
unfoldable pub behind : List ℕ → List ℕ
behind bytes = drop (to_space bytes + 1) bytes

-- a board with two scores, where both were read
unfoldable pub scored : ℕ → Option ℤ → Option ℤ → Option Board
scored board None second = None
scored board (Some first) None = None
scored board (Some first) (Some second) = Some (record { number = board; first = first; second = second })

-- the same, where the board's number was read too
unfoldable pub asked : Option ℕ → Option ℤ → Option ℤ → Option Board
asked None first second = None
asked (Some board) first second = scored (board_in board) first second

-- `BOARD FIRST SECOND`: one to five digits, and two scores, each with an optional minus and one to five digits
unfoldable pub asked_on : List ℕ → Option Board
asked_on line = asked (number_on (field line)) (score_on (field (behind line))) (score_on (behind (behind line)))
