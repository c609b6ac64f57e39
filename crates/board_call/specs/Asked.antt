-- What C is answered of a board by Law 2: a number for each that is asked for, a refusal for what is no board. Assumes nothing.
use Rattle.std.specs.Prelude.{ℕ, Bool, false, eqb, leb, if◌then◌else◌}
use Rattle.laws.specs.Law2.{dealer, vulnerability}
use Rattle.laws.specs.Refusals.{refusal_number, no_board_or_table}
use Rattle.deal.specs.Sides.{sides_of}

-- boards are 1 to 127
unfoldable pub is_board : ℕ → Bool
is_board board = if eqb board 0 then false else leb board 127

-- a number that each board has, asked for: 3 with place 0 for what is no board
unfoldable pub of_board : (ℕ → ℕ) → ℕ → ℕ
of_board number board = if is_board board then number board else refusal_number no_board_or_table 0

-- the dealer's seat
unfoldable pub dealer_asked : ℕ → ℕ
dealer_asked = of_board dealer

-- the vulnerable sides: 0 none, 1 North-South, 2 East-West, 3 both
unfoldable pub vulnerable_asked : ℕ → ℕ
vulnerable_asked = of_board (λ (board : ℕ). sides_of (vulnerability board))
