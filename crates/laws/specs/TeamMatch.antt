-- A team match (docs/RULES.md, 13): two teams at two tables. Each board's two scores, the first less the second, become IMPs by Law 78B, which are
-- added to the first team's total; the other team's total is its negation. A run of calls is written latest first: in `c ∷ run`, c came after run.
-- It knows no state of a match: what a call answers goes by the boards that were accepted before it.
-- Assumes nothing.
use Rattle.std.specs.Prelude.{ℕ, ◌≤◌, ◌≡◌, Bool, true, false, not, ◌&&◌, List, [], ◌∷◌, leb, eqb, ℤ, pos, neg_ℤ, ◌+ℤ◌, ◌-ℤ◌, length, if◌then◌else◌}
use Rattle.laws.specs.Choice.{how_many, some}
use Rattle.laws.specs.Refusals.{Answer, refused, answered, invalid_score, board_not_free, too_many_boards}
use Rattle.laws.specs.Law77.{valid_score}
use Rattle.laws.specs.Law78.{same_score, imps_of, imps}

-- how many boards a match may have
abbrev pub most_boards : ℕ
most_boards = 32

-- a call: a board's number and its scores at the two tables, valid or not
pub record Call : Type 0 where
  pub board : ℕ
  pub first : ℤ
  pub second : ℤ

-- a board is among those used
unfoldable pub is_used : ℕ → List ℕ → Bool
is_used board used = some (eqb board) used

-- a board can be played: its number is from 1 to 127, and it is not used
unfoldable pub is_free : ℕ → List ℕ → Bool
is_free board used = leb 1 board && (leb board 127 && not (is_used board used))

-- what a call answers where these boards are used: 20 if either score isn't valid, else 29 if the board isn't free, else 30 if there are 32 already,
-- else the IMPs of the first score less the second
unfoldable pub answer_to : List ℕ → Call → Answer ℤ
answer_to used c =
    if not (valid_score c.first && valid_score c.second) then refused invalid_score
    else if not (is_free c.board used) then refused board_not_free
    else if leb most_boards (length used) then refused too_many_boards
    else imps c.first c.second

-- what a call leaves: where it is answered what it made, and where it is refused what it was given
abbrev pub leaving : {A : Type 0} → Answer ℤ → A → A → A
leaving (refused n) made given = given
leaving (answered z) made given = made

-- the numbers of some boards
unfoldable pub boards_of : List Call → List ℕ
boards_of [] = []
boards_of (c ∷ calls) = c.board ∷ boards_of calls

-- the boards that a run of calls accepts, with their scores
unfoldable pub accepted_in : List Call → List Call
accepted_in [] = []
accepted_in (c ∷ run) = leaving (answer_to (boards_of (accepted_in run)) c) (c ∷ accepted_in run) (accepted_in run)

-- the IMPs of a board, by Law 78B
abbrev pub imps_on : Call → ℤ
imps_on c = imps_of (c.first -ℤ c.second)

-- the first team's total: the sum of the IMPs of some boards
unfoldable pub total_of : List Call → ℤ
total_of [] = pos 0
total_of (c ∷ calls) = total_of calls +ℤ imps_on c

-- the totals of both teams
pub record Totals : Type 0 where
  pub first : ℤ
  pub second : ℤ

-- the other team's total is the negation of the first team's
abbrev pub totals_of : ℤ → Totals
totals_of total = record { first = total; second = neg_ℤ total }

-- ---- matches, and when two are of the same boards
-- boards that can be played one after the other: numbers from 1 to 127 that are distinct, with valid scores
unfoldable pub Playable : List Call → Type 0
Playable [] = Unit {0}
Playable (c ∷ calls) =
    (1 ≤ c.board) × (c.board ≤ 127) × (is_used c.board (boards_of calls) ≡ false)
    × (valid_score c.first ≡ true) × (valid_score c.second ≡ true) × Playable calls

-- the boards of a match: at most 32 of them
pub record Boards (calls : List Call) : Type 0 where
  pub room : length calls ≤ most_boards
  pub playable : Playable calls

-- two boards have the same number and the same scores
unfoldable pub same_call : Call → Call → Bool
same_call a b = eqb a.board b.board && (same_score a.first b.first && same_score a.second b.second)

-- two lists have the same boards with the same scores, each as often
unfoldable pub SameBoards : List Call → List Call → Type 0
SameBoards calls calls2 = (c : Call) → how_many (same_call c) calls ≡ how_many (same_call c) calls2

-- the boards with their scores swapped, as the other team has them
unfoldable pub swapped : List Call → List Call
swapped [] = []
swapped (c ∷ calls) = record { board = c.board; first = c.second; second = c.first } ∷ swapped calls
