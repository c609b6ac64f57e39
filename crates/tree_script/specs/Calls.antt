-- The call that a line of a script asks for. Bytes are ASCII codes.
-- Assumes nothing.
use Rattle.std.specs.Prelude.{ℕ, ◌-◌, ℤ, Bool, true, false, not, ◌&&◌, List, [], ◌∷◌, leb, eqb, length, get_or, take, drop, Option, None, Some, if◌then◌else◌}
use Rattle.laws.specs.Decimal.{is_number, value}
use Rattle.decimal.specs.Scores.{board_in, score_on}
use Rattle.tree_script.specs.declared.Given.{Given}
use Rattle.tree_script.specs.declared.Call.{Call}
use Rattle.tree_script.specs.declared.Call.TheVariants.{Fresh, Add, Merge, Matchpoints, Cell, Award}

-- bytes start with a word
unfoldable pub is_prefix : List ℕ → List ℕ → Bool
is_prefix [] bytes = true
is_prefix (w ∷ word) [] = false
is_prefix (w ∷ word) (b ∷ bytes) = eqb b w && is_prefix word bytes

-- a fresh tally of a board: one to five digits
unfoldable pub fresh_on : List ℕ → Option Call
fresh_on bytes = if is_number bytes then Some (Fresh (board_in (value bytes))) else None

-- a score that was read, of a deal
abbrev pub of_deal : ℕ → Option ℤ → Option Given
of_deal deal (Some s) = Some (record { score = s; deal = deal })
of_deal deal None = None

-- bytes name a deal: a space stands before the last of them
unfoldable pub names_deal : List ℕ → Bool
names_deal bytes = leb 2 (length bytes) && eqb (get_or bytes (length bytes - 2) 0) 32

-- a score of deal 0, or a score, a space and a digit from 0 to 5 for its deal
unfoldable pub given_on : List ℕ → Option Given
given_on bytes =
    if not (names_deal bytes) then of_deal 0 (score_on bytes)
    else if leb 48 (get_or bytes (length bytes - 1) 0) && leb (get_or bytes (length bytes - 1) 0) 53
    then of_deal (get_or bytes (length bytes - 1) 0 - 48) (score_on (take (length bytes - 2) bytes))
    else None

-- a call with a score and its deal
abbrev pub with_given : (Given → Call) → Option Given → Option Call
with_given call (Some given) = Some (call given)
with_given call None = None

-- `fresh `
abbrev pub fresh_word : List ℕ
fresh_word = 102 ∷ 114 ∷ 101 ∷ 115 ∷ 104 ∷ 32 ∷ []

-- `add `
abbrev pub add_word : List ℕ
add_word = 97 ∷ 100 ∷ 100 ∷ 32 ∷ []

-- `matchpoints `
abbrev pub matchpoints_word : List ℕ
matchpoints_word = 109 ∷ 97 ∷ 116 ∷ 99 ∷ 104 ∷ 112 ∷ 111 ∷ 105 ∷ 110 ∷ 116 ∷ 115 ∷ 32 ∷ []

-- `merge`
abbrev pub merge_word : List ℕ
merge_word = 109 ∷ 101 ∷ 114 ∷ 103 ∷ 101 ∷ []

-- `cell `
abbrev pub cell_word : List ℕ
cell_word = 99 ∷ 101 ∷ 108 ∷ 108 ∷ 32 ∷ []

-- `award `
abbrev pub award_word : List ℕ
award_word = 97 ∷ 119 ∷ 97 ∷ 114 ∷ 100 ∷ 32 ∷ []

-- a percentage to be awarded: one to five digits
unfoldable pub award_on : List ℕ → Option Call
award_on bytes = if is_number bytes then Some (Award (value bytes)) else None

-- a call that makes a tally or asks for matchpoints: `fresh B`, `add S`, `add S D`, `matchpoints S`, `matchpoints S D` or `merge`
unfoldable pub tally_call_on : List ℕ → Option Call
tally_call_on line =
    if is_prefix fresh_word line then fresh_on (drop 6 line)
    else if is_prefix add_word line then with_given Add (given_on (drop 4 line))
    else if is_prefix matchpoints_word line then with_given Matchpoints (given_on (drop 12 line))
    else if eqb (length line) 5 && is_prefix merge_word line then Some Merge
    else None

-- the call on a line: `cell S`, `cell S D`, `award N`, or one of the others
unfoldable pub call_on : List ℕ → Option Call
call_on line =
    if is_prefix cell_word line then with_given Cell (given_on (drop 5 line))
    else if is_prefix award_word line then award_on (drop 6 line)
    else tally_call_on line
