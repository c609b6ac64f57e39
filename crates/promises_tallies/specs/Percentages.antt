-- Request 110: what is promised of percentages and of the cells of a page of results, over lists, tallies and trees.
-- An answer of `percentages::cell_of` or `percentages::award` is any that its contract allows: what it stands for is the definition's answer.
-- Assumes nothing.
use Rattle.std.specs.Prelude.{ℕ, ◌≤◌, ◌<◌, ◌+◌, ◌-◌, ◌*◌, ◌≡◌, ◌⊎◌, true, false, not, List, [], T, Float, ℤ, length}
use Rattle.std.specs.Float.{binary64}
use Rattle.std.specs.Float.Ieee.{round, to_unsigned, le, is_nan}
use Rattle.std.specs.Int.Signed.{lt_z}
use Rattle.laws.specs.Choice.{how_many}
use Rattle.laws.specs.Refusals.{refused, answered, refused_at, placed, malformed_tally, invalid_score}
use Rattle.laws.specs.Law77.{valid_score}
use Rattle.laws.specs.Law78.{occurrences, ns_matchpoints, ew_matchpoints}
use Rattle.laws.specs.Percentages.{most_matchpoints, as_float, ns_percentage, ew_percentage, played, awarded, alone, cell_asked, award}
use Rattle.laws.specs.CellSheet.{hundredths}
use Rattle.laws.specs.Tally.{Result, scores_of, Thirteen, asked, Tree, list_of, added, OneDeal, SameScores}
use Rattle.tally.specs.Tallies.{no_tally}
use Rattle.std.specs.Prelude as Std
use Rattle.laws.specs.declared.Refused.{Refused}
use Rattle.percentages.specs.declared.Cell.{Cell as CodeCell}
use Rattle.percentages.specs.Cells.{cell_answer, cell_of_tally}
use Rattle.promises_tallies.specs.Demand3.{left, Plain}

-- a result of the score, in a list of 2 to 128 results
pub record Compared (results : List ℤ) (score : ℤ) : Type 0 where
  pub some : 1 ≤ occurrences score results
  pub more : 2 ≤ length results
  pub room : length results ≤ 128

-- ---- the percentage of one such result
pub record OfPercentage (results : List ℤ) (score : ℤ) : Type 0 where
  -- both numbers of the division are held exactly: as a float and back, each is the same
  pub exact_points : to_unsigned 32 (as_float (100 * ns_matchpoints results score)) ≡ 100 * ns_matchpoints results score
  pub exact_most : to_unsigned 32 (as_float (most_matchpoints results)) ≡ most_matchpoints results
  -- the division rounds once: the float nearest to the exact fraction
  pub rounds_once : ns_percentage results score ≡ round binary64 false (100 * ns_matchpoints results score) (2 * (length results - 1))
  -- it is a number from 0 to 100
  pub number : T (not (is_nan (ns_percentage results score)))
  pub from_0 : T (le (as_float 0) (ns_percentage results score))
  pub to_100 : T (le (ns_percentage results score) (as_float 100))
  -- above every other result it is 100, and below every other 0
  pub top : how_many (λ (r : ℤ). lt_z r score) results + 1 ≡ length results → ns_percentage results score ≡ as_float 100
  pub bottom : occurrences score results ≡ 1 → how_many (λ (r : ℤ). lt_z r score) results ≡ 0 → ns_percentage results score ≡ as_float 0
  -- the two sides' come from whole numbers that together are 100 times the most, each of one division
  pub complementary : 100 * ns_matchpoints results score + 100 * ew_matchpoints results score ≡ 100 * most_matchpoints results
  pub other_side : ew_percentage results score ≡ round binary64 false (100 * ew_matchpoints results score) (2 * (length results - 1))

-- ---- which answers there are
pub record OfCells : Type 0 where
  -- alone exactly where the list has one result
  pub only : (results : List ℤ) (s : ℤ) → cell_asked results s ≡ answered alone → length results ≡ 1
  pub one_result : (results : List ℤ) (s : ℤ) → length results ≡ 1 → valid_score s ≡ true → 1 ≤ occurrences s results → cell_asked results s ≡ answered alone
  -- what is asked of a list is never an awarded cell
  pub not_awarded : (results : List ℤ) (s : ℤ) (x : Float) → cell_asked results s ≡ answered (awarded x) → ⊥
  -- an all-zero tally, as beside a refusal, is refused with 17
  pub no_tally_lem : (r : Result) → cell_of_tally no_tally r ≡ refused_at malformed_tally 0
  -- 60, 50 and 40 are awarded as themselves, and any other number is 20
  pub awards : (n : ℕ) → (n ≡ 60) ⊎ (n ≡ 50) ⊎ (n ≡ 40) → award n ≡ answered (awarded (as_float n))
  pub others : (n : ℕ) → (n ≡ 60 → ⊥) → (n ≡ 50 → ⊥) → (n ≡ 40 → ⊥) → award n ≡ refused invalid_score

-- ---- trees
-- asked of the tally that a tree's calls leave, whatever its deals: 20, 4 or 28, else the cell over the tree's whole list, or 21
pub record OverTrees : Type 0 where
  pub of_tree : (t : Tree) (r : Result) → cell_of_tally (left t) r ≡ asked cell_asked (list_of t) r
  -- every answer that the contract of `percentages::cell_of` allows stands for it
  pub of_answer : (t : Tree) (r : Result) (a : Std.Result CodeCell Refused) → cell_answer a ≡ cell_of_tally (left t) r → cell_answer a ≡ asked cell_asked (list_of t) r
  -- where all results are of one deal with thirteen cards a seat, and the score asked about is on it
  pub on_one_deal : (deal : List ℕ) → Thirteen deal → (t : Tree) → OneDeal deal (added t) → (s : ℤ)
      → cell_of_tally (left t) (record { score = s; deal = deal }) ≡ placed (cell_asked (scores_of (list_of t)) s)
  -- two trees of demand 3's kind with the same scores, each as often, give the same answers
  pub same_cell : (board : ℕ) (deal : List ℕ) → Thirteen deal → (t u : Tree) → Plain board deal t → Plain board deal u
      → SameScores (scores_of (added t)) (scores_of (added u))
      → (r : Result) (a q : Std.Result CodeCell Refused) → cell_answer a ≡ cell_of_tally (left t) r → cell_answer q ≡ cell_of_tally (left u) r → cell_answer a ≡ cell_answer q

-- ---- the printed hundredths: the whole number that is at most the exact number and a half, and more than that less one
pub record Rounded (points most : ℕ) : Type 0 where
  pub at_most : 2 * most * hundredths points most ≤ 2 * (10000 * points) + most
  pub nearer : 2 * (10000 * points) + most < 2 * most * (hundredths points most + 1)

-- the claim
pub record Percentages : Type 0 where
  pub of_percentage : (results : List ℤ) (score : ℤ) → Compared results score → OfPercentage results score
  pub of_cells : OfCells
  pub over_trees : OverTrees
  pub rounded : (points most : ℕ) → 1 ≤ most → Rounded points most
