-- Law 2: the dealer and the vulnerability of a board, by its number. Board 0 does not exist; here it is as board 1.
-- Assumes nothing.
use Rattle.std.specs.Prelude.{ℕ, ◌-◌, ◌%◌, Bool, true, false, List, [], ◌∷◌, eqb, get_or}
use Rattle.laws.specs.Cards.{side_of}

-- which sides are vulnerable
pub data Vulnerability : Type 0 where
  none ns ew both : Vulnerability

-- North deals board 1, and the deal goes on clockwise
unfoldable pub dealer : ℕ → ℕ
dealer board = (board - 1) % 4

-- the vulnerability of boards 1 to 16, after which it repeats
unfoldable pub sixteen_boards : List Vulnerability
sixteen_boards =
    none ∷ ns ∷ ew ∷ both
    ∷ ns ∷ ew ∷ both ∷ none
    ∷ ew ∷ both ∷ none ∷ ns
    ∷ both ∷ none ∷ ns ∷ ew
    ∷ []

unfoldable pub vulnerability : ℕ → Vulnerability
vulnerability board = get_or sixteen_boards ((board - 1) % 16) none

-- the vulnerable sides include the side of the seat
unfoldable pub includes : Vulnerability → ℕ → Bool
includes none seat = false
includes ns seat = eqb (side_of seat) 0
includes ew seat = eqb (side_of seat) 1
includes both seat = true

-- the side of the seat is vulnerable on the board
unfoldable pub vulnerable : ℕ → ℕ → Bool
vulnerable board seat = includes (vulnerability board) seat
