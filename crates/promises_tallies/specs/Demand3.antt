-- Demand 3: what is promised of every tree of tally calls, by the rules for trees (docs/RULES.md, 11) and the definitions that the calls' contracts cite.
-- First for every tree, whatever deals its results are of; then, where all results are of one deal with thirteen cards a seat, in the words of the demand.
-- Assumes nothing.
use Rattle.std.specs.Prelude.{ℕ, ◌≤◌, ◌<◌, ◌+◌, ◌≡◌, true, not, List, ltb, eqb, ℤ, length, if◌then◌else◌}
use Rattle.laws.specs.Refusals.{placed, accepted, two_boards, too_many_results, invalid_score}
use Rattle.laws.specs.Law77.{valid_score}
use Rattle.laws.specs.Law78.{occurrences, matchpoints}
use Rattle.laws.specs.Tally.{capacity, Result, scores_of, deal_of, Thirteen, asked, leaves, Tree, fresh, add, merge, CallOf, board_of, list_of, refusal_of, added}
use Rattle.laws.specs.Tally.{OneBoard, OneDeal, AllValid, SameScores}
use Rattle.tally.specs.declared.Tally.{Tally}
use Rattle.std.specs.Prelude as Std
use Rattle.laws.specs.declared.Refused.{Refused}
use Rattle.tally.specs.Tallies.{Tallied, tally_of, well_formed, answer_of, fresh_of, add_of, merge_of}
use Rattle.matchpoints.specs.declared.points.BothSides.{BothSides}
use Rattle.tally.specs.Points.{matchpoints_of}
use Rattle.matchpoints.specs.Points.{points_answer}
use Rattle.tally.specs.Shape.{count_in, Shape}

-- ---- the calls of a tree
-- the tally that a tree's calls leave: what the last call made, or where it is refused the tally given to it, in a merge the first
unfoldable pub left : Tree → Tally
left (fresh board from to) = (fresh_of board).tally
left (add t r) = leaves (add_of (left t) r).refusal (add_of (left t) r).tally (left t)
left (merge t u) = leaves (merge_of (left t) (left u)).refusal (merge_of (left t) (left u)).tally (left t)

-- what the last call of a tree answers, given the tallies that its trees left
unfoldable pub answer : Tree → Tallied
answer (fresh board from to) = fresh_of board
answer (add t r) = add_of (left t) r
answer (merge t u) = merge_of (left t) (left u)

-- some call of a tree is refused
pub record Refusing (t : Tree) : Type 0 where
  pub call : Tree
  pub of : CallOf t call
  pub refused : (answer call).refusal ≡ 0 → ⊥

-- ---- what is promised of every tree, whatever its deals
pub record OfTree (t : Tree) : Type 0 where
  -- each of its calls is refused exactly when the rules say so, with their number and place
  pub refusal : (call : Tree) → CallOf t call → (answer call).refusal ≡ (refusal_of call).number
  pub place : (call : Tree) → CallOf t call → (answer call).place ≡ (refusal_of call).place
  -- accepted, a call gives the tally that is left after it; refused, none
  pub answers : (call : Tree) → CallOf t call → answer call ≡ answer_of (refusal_of call) (left call)
  -- the tally left is of the first fresh tally's board, carries the list's deal, or none where the list has no result, and is well formed
  pub shape : Shape (left t) (board_of t) (deal_of (list_of t))
  pub well : well_formed (left t) ≡ true
  -- every result of the list was made on the deal that the tally carries, and where there is one the deal has thirteen cards a seat
  pub one_deal : OneDeal (left t).deal (list_of t)
  pub thirteen : 1 ≤ length (list_of t) → Thirteen (left t).deal
  -- it holds each score as often as the list
  pub counts : (s : ℤ) → count_in (left t) s ≡ occurrences s (scores_of (list_of t))
  -- and is the tally of that board and that list, value for value
  pub canonical : left t ≡ tally_of (board_of t) (list_of t)
  -- asked of it for any result: 20, 4 or 28, else Law 78A's matchpoints over the whole list, or 21
  pub points : (r : Result) → matchpoints_of (left t) r ≡ asked matchpoints (list_of t) r
  -- every answer that the contract of `matchpoints::matchpoints` allows stands for these
  pub points_answered : (r : Result) (a : Std.Result BothSides Refused) → points_answer a ≡ matchpoints_of (left t) r → points_answer a ≡ asked matchpoints (list_of t) r

-- ---- trees whose results are all of one deal
-- the number of a refusal by the rules without deals: adding, 20 if the score isn't valid, else 19; merging, 18 if the boards differ, else 19
unfoldable pub ruled_refusal : Tree → ℕ
ruled_refusal (fresh board from to) = accepted
ruled_refusal (add t r) =
    if not (valid_score r.score) then invalid_score
    else if ltb capacity (length (list_of t) + 1) then too_many_results
    else accepted
ruled_refusal (merge t u) =
    if not (eqb (board_of t) (board_of u)) then two_boards
    else if ltb capacity (length (list_of t) + length (list_of u)) then too_many_results
    else accepted

-- all fresh tallies of one board, all results of one deal, valid scores, at most 128 of them
pub record Plain (board : ℕ) (deal : List ℕ) (t : Tree) : Type 0 where
  pub one_board : OneBoard board t
  pub one_deal : OneDeal deal (added t)
  pub valid : AllValid (scores_of (added t))
  pub room : length (added t) ≤ 128

-- no call of a plain tree is refused, and its list has every score added, each as often
pub record NoneRefused (of : ℕ) (t : Tree) : Type 0 where
  pub none : Refusing t → ⊥
  pub board : board_of t ≡ of
  pub all : SameScores (scores_of (list_of t)) (scores_of (added t))

-- what is promised of the trees whose results are of one deal with thirteen cards a seat, and of scores asked about on that deal
pub record OnOneDeal (deal : List ℕ) : Type 0 where
  -- a call is refused exactly when the rules without deals say so, with their number, and place 0
  pub refusal : (t : Tree) → OneDeal deal (added t) → (call : Tree) → CallOf t call
      → ((answer call).refusal ≡ ruled_refusal call) × ((answer call).place ≡ 0)
  -- the tally left is of the first fresh tally's board, holds each score as often as the list, and carries the deal when the list has any score
  pub board : (t : Tree) → OneDeal deal (added t) → (left t).board ≡ board_of t
  pub counts : (t : Tree) → OneDeal deal (added t) → (s : ℤ) → count_in (left t) s ≡ occurrences s (scores_of (list_of t))
  pub carries : (t : Tree) → OneDeal deal (added t) → 1 ≤ length (list_of t) → (left t).deal ≡ deal
  -- one board, valid scores, at most 128: no call is refused and the list has every one of them
  pub none_refused : (board : ℕ) (t : Tree) → Plain board deal t → NoneRefused board t
  -- two such trees with the same scores, each as often, leave the same tally, value for value
  pub same_tally : (board : ℕ) (t u : Tree) → Plain board deal t → Plain board deal u → SameScores (scores_of (added t)) (scores_of (added u)) → left t ≡ left u
  -- with more than 128 scores some call is refused
  pub too_many : (t : Tree) → OneDeal deal (added t) → 128 < length (added t) → Refusing t
  -- asked for a score: Law 78A's matchpoints over the whole list; any other score is 20 or 21
  pub points : (t : Tree) → OneDeal deal (added t) → (s : ℤ)
      → matchpoints_of (left t) (record { score = s; deal = deal }) ≡ placed (matchpoints (scores_of (list_of t)) s)

-- the claim: every tree; trees with more than 128 results, whatever their deals; and trees of one deal with thirteen cards a seat
pub record Demand3 : Type 0 where
  pub of_tree : (t : Tree) → OfTree t
  pub too_many : (t : Tree) → 128 < length (added t) → Refusing t
  pub on_one_deal : (deal : List ℕ) → Thirteen deal → OnOneDeal deal
