-- Demand 3 again, on bytes: for every tree of the calls that C makes, the bytes left are those of the tally left.
-- Assumes nothing.
use Rattle.std.specs.Prelude.{ℕ, ◌<◌, ◌≡◌, true, List, ℤ, length, replicate}
use Rattle.laws.specs.Law78.{matchpoints}
use Rattle.laws.specs.Percentages.{cell_asked}
use Rattle.laws.specs.Refusals.{Placed, placed, refusal_number}
use Rattle.laws.specs.Tally.{scores_of, Thirteen, asked, Tree, fresh, add, merge, CallOf, board_of, list_of, refusal_of, added, OneDeal, SameScores}
use Rattle.tally.specs.InBytes.{tally_bytes, tally_in}
use Rattle.tally.specs.Tallies.{tally_of, well_formed}
use Rattle.tally_calls.specs.Calls.{number_of, spelled, result_of, tallied, fresh_call, add_call, merge_call, points_bytes, matchpoints_call, cell_bytes, cell_call}
use Rattle.promises_tallies.specs.Demand3.{left, answer, ruled_refusal, Plain}
use Rattle.promises_tallies.specs.TallyBytes.{kept}

-- ---- the calls of a tree
-- no tally: 398 zeros
abbrev pub no_bytes : List ℕ
no_bytes = replicate 398 0

-- the bytes that a tree's calls leave: what the last call wrote, or where it is refused the bytes given to it, in a merge the first
unfoldable pub left_bytes : Tree → List ℕ
left_bytes (fresh board from to) = kept (fresh_call board 398) no_bytes
left_bytes (add t r) = kept (add_call (left_bytes t) r.score r.deal 398) (left_bytes t)
left_bytes (merge t u) = kept (merge_call (left_bytes t) (left_bytes u) 398) (left_bytes t)

-- what the last call of a tree says, given the bytes that its trees left
unfoldable pub said : Tree → Placed (List ℕ)
said (fresh board from to) = fresh_call board 398
said (add t r) = add_call (left_bytes t) r.score r.deal 398
said (merge t u) = merge_call (left_bytes t) (left_bytes u) 398

-- some call of a tree returns another number than 0
pub record RefusingBytes (t : Tree) : Type 0 where
  pub call : Tree
  pub of : CallOf t call
  pub refused : number_of (said call) ≡ 0 → ⊥

-- ---- what is promised of every tree, whatever its deals
pub record OfTreeBytes (t : Tree) : Type 0 where
  -- the bytes left are those of the tally left, which they are read back as
  pub left_is : left_bytes t ≡ tally_bytes (left t)
  pub read_back : tally_in (left_bytes t) ≡ left t
  pub well : well_formed (tally_in (left_bytes t)) ≡ true
  -- those of the tree's board and its list
  pub canonical : left_bytes t ≡ tally_bytes (tally_of (board_of t) (list_of t))
  -- each of its calls says what the call on tallies answers, and returns the number and place that the rules for trees give
  pub says : (call : Tree) → CallOf t call → said call ≡ tallied (answer call)
  pub number : (call : Tree) → CallOf t call → number_of (said call) ≡ refusal_number (refusal_of call).number (refusal_of call).place
  -- asked of them for any score with any holders: 20, 4 or 28, else the bytes of Law 78A's matchpoints over the whole list, or 21; and of the cell
  pub points : (score : ℤ) (holders : List ℕ)
      → matchpoints_call (left_bytes t) score holders 4 ≡ spelled points_bytes (asked matchpoints (list_of t) (result_of score holders))
  pub cell : (score : ℤ) (holders : List ℕ)
      → cell_call (left_bytes t) score holders 9 ≡ spelled cell_bytes (asked cell_asked (list_of t) (result_of score holders))

-- ---- trees whose results are all of one deal with thirteen cards a seat
pub record OnOneDealBytes (deal : List ℕ) : Type 0 where
  -- a call is refused exactly when the rules without deals say so, with their number, and place 0
  pub number : (t : Tree) → OneDeal deal (added t) → (call : Tree) → CallOf t call → number_of (said call) ≡ refusal_number (ruled_refusal call) 0
  -- one board, valid scores, at most 128: every call returns 0
  pub none_refused : (board : ℕ) (t : Tree) → Plain board deal t → RefusingBytes t → ⊥
  -- two such trees with the same scores, each as often, leave the same bytes
  pub same_bytes : (board : ℕ) (t u : Tree) → Plain board deal t → Plain board deal u → SameScores (scores_of (added t)) (scores_of (added u))
      → left_bytes t ≡ left_bytes u
  -- asked for a score on that deal: Law 78A's matchpoints over the whole list, or 20 or 21; and the cell
  pub points : (t : Tree) → OneDeal deal (added t) → (score : ℤ)
      → matchpoints_call (left_bytes t) score deal 4 ≡ spelled points_bytes (placed (matchpoints (scores_of (list_of t)) score))
  pub cell : (t : Tree) → OneDeal deal (added t) → (score : ℤ)
      → cell_call (left_bytes t) score deal 9 ≡ spelled cell_bytes (placed (cell_asked (scores_of (list_of t)) score))

-- the claim
pub record Demand3Bytes : Type 0 where
  pub of_tree : (t : Tree) → OfTreeBytes t
  pub too_many : (t : Tree) → 128 < length (added t) → RefusingBytes t
  pub on_one_deal : (deal : List ℕ) → Thirteen deal → OnOneDealBytes deal
