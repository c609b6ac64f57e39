-- The slip (docs/RULES.md, 14): the items of Law 77 that make a board's score, with their points from North-South, and the text that says them.
-- Bytes are ASCII codes.
-- Assumes nothing.
use Rattle.std.specs.Prelude.{ℕ, Bool, List, [], ◌∷◌, ◌++◌, eqb, ℤ, pos, neg_ℤ, nat_abs, ◌+ℤ◌, if◌then◌else◌}
use Rattle.laws.specs.Auction.{passed_out}
use Rattle.laws.specs.Law77.{Items, items, ns_score}
use Rattle.laws.specs.Record.{Parts}
use Rattle.laws.specs.Judge.{Outcome, Outcome.refused, Outcome.accepted, least_rooms, judge_of}
use Rattle.laws.specs.Judgement.{calls_of, declarer_of, stake_of, after_of, score_of}
use Rattle.laws.specs.Decimal.{decimal, signed_decimal}
use Rattle.laws.specs.Sheet.{newline}

-- ---- the items
-- the names of the items of Law 77
pub data Name : Type 0 where
  TRICKS : Name
  OVERTRICKS : Name
  UNDERTRICKS : Name
  PARTSCORE : Name
  GAME : Name
  SLAM : Name
  DOUBLING : Name

-- in the order of the slip
abbrev pub in_order : List Name
in_order = TRICKS ∷ OVERTRICKS ∷ UNDERTRICKS ∷ PARTSCORE ∷ GAME ∷ SLAM ∷ DOUBLING ∷ []

-- what declarer's side gains by an item; undertricks are the other side's gain
abbrev pub gain : Items → Name → ℤ
gain i TRICKS = pos i.tricks
gain i OVERTRICKS = pos i.overtricks
gain i UNDERTRICKS = neg_ℤ (pos i.undertricks)
gain i PARTSCORE = pos i.part_score
gain i GAME = pos i.game
gain i SLAM = pos i.slam
gain i DOUBLING = pos i.doubling

-- the points of an item on a board, from North-South: what Law 77 grants the contract with its tricks after Law 64; passed out, nothing
unfoldable pub points_of : Parts → Name → ℤ
points_of p name = if passed_out (calls_of p) then pos 0 else ns_score (declarer_of p) (gain (items (stake_of p) (after_of p)) name)

-- an item of a slip: its name, and its points from North-South
pub record Item : Type 0 where
  pub name : Name
  pub points : ℤ

-- no points
abbrev pub is_nothing : ℤ → Bool
is_nothing points = eqb (nat_abs points) 0

-- the items of some names, given the points of each; items of nothing are left out
unfoldable pub items_among : (Name → ℤ) → List Name → List Item
items_among points [] = []
items_among points (name ∷ names) =
    if is_nothing (points name) then items_among points names
    else (record { name = name; points = points name } ∷ items_among points names)

-- the items of a board
unfoldable pub items_of : Parts → List Item
items_of p = items_among (points_of p) in_order

-- the points of some items together
unfoldable pub sum_of : List Item → ℤ
sum_of [] = pos 0
sum_of (i ∷ rest) = i.points +ℤ sum_of rest

-- ---- the text
abbrev pub word_of : Name → List ℕ
word_of TRICKS = 84 ∷ 82 ∷ 73 ∷ 67 ∷ 75 ∷ 83 ∷ []
word_of OVERTRICKS = 79 ∷ 86 ∷ 69 ∷ 82 ∷ 84 ∷ 82 ∷ 73 ∷ 67 ∷ 75 ∷ 83 ∷ []
word_of UNDERTRICKS = 85 ∷ 78 ∷ 68 ∷ 69 ∷ 82 ∷ 84 ∷ 82 ∷ 73 ∷ 67 ∷ 75 ∷ 83 ∷ []
word_of PARTSCORE = 80 ∷ 65 ∷ 82 ∷ 84 ∷ 83 ∷ 67 ∷ 79 ∷ 82 ∷ 69 ∷ []
word_of GAME = 71 ∷ 65 ∷ 77 ∷ 69 ∷ []
word_of SLAM = 83 ∷ 76 ∷ 65 ∷ 77 ∷ []
word_of DOUBLING = 68 ∷ 79 ∷ 85 ∷ 66 ∷ 76 ∷ 73 ∷ 78 ∷ 71 ∷ []

-- SUM
abbrev pub sum_word : List ℕ
sum_word = 83 ∷ 85 ∷ 77 ∷ []

-- a line: a word, a space, points with a minus where they are negative, and a newline
unfoldable pub line : List ℕ → ℤ → List ℕ
line word points = word ++ (32 ∷ signed_decimal points) ++ (newline ∷ [])

-- the lines of some items
unfoldable pub lines : List Item → List ℕ
lines [] = []
lines (i ∷ rest) = line (word_of i.name) i.points ++ lines rest

-- a refusal: its number, a space, its place, and a newline
unfoldable pub refusal_line : ℕ → ℕ → List ℕ
refusal_line n place = (decimal n ++ (32 ∷ decimal place)) ++ (newline ∷ [])

-- the slip of what the judge says: the items and their sum, or the refusal alone
unfoldable pub slip_of : Outcome → List ℕ
slip_of (refused n place) = refusal_line n place
slip_of (accepted p) = lines (items_of p) ++ line sum_word (score_of p)

-- the slip of a record, which is judged with buffers of the least lengths, so that none is too short
unfoldable pub slip : List ℕ → List ℕ
slip bytes = slip_of (judge_of bytes least_rooms)

-- no slip has more bytes
abbrev pub most_slip_bytes : ℕ
most_slip_bytes = 72
