-- What is promised of tallies, whoever made them: which are well formed, what a refusal gives, how merging goes, and what matchpoints come to.
-- Assumes nothing.
use Rattle.std.specs.Prelude.{ℕ, ◌≤◌, ◌+◌, ◌-◌, ◌*◌, ◌≡◌, true, List, [], ◌∷◌, ℤ, pos, length, replicate}
use Rattle.std.specs.Int.Signed.{lt_z}
use Rattle.laws.specs.Choice.{how_many}
use Rattle.laws.specs.Refusals.{refused_at, malformed_tally, fouled_board}
use Rattle.laws.specs.Law78.{occurrences, ns_matchpoints, ew_matchpoints}
use Rattle.laws.specs.Tally.{Result, scores_of, deal_of, Thirteen, refusal, OneDeal, AllValid}
use Rattle.tally.specs.declared.Tally.{Tally}
use Rattle.tally.specs.Tallies.{Tallied}
use Rattle.tally.specs.Tallies.{tally_of, scores_in, well_formed, no_tally, refused_with, accepting, fresh_of, add_of, merge_of}
use Rattle.tally.specs.Points.{matchpoints_of}

-- ---- described
-- a tally is that of a board from 1 to 127 and of at most 128 results with valid scores, all of one deal with thirteen cards a seat
pub record Holds (t : Tally) (board : ℕ) (results : List Result) : Type 0 where
  pub from : 1 ≤ board
  pub to : board ≤ 127
  pub valid : AllValid (scores_of results)
  pub room : length results ≤ 128
  pub one_deal : OneDeal (deal_of results) results
  pub thirteen : 1 ≤ length results → Thirteen (deal_of results)
  pub is : t ≡ tally_of board results

-- the test of a tally holds exactly for these
pub record Described (t : Tally) : Type 0 where
  pub holds : well_formed t ≡ true → (board : ℕ) × (results : List Result) × Holds t board results
  pub only : (board : ℕ) (results : List Result) → Holds t board results → well_formed t ≡ true

-- ---- refused, no tally
-- an answer that is a refusal comes with no tally
abbrev pub WithNone : Tallied → Type 0
WithNone r = (r.refusal ≡ 0 → ⊥) → r.tally ≡ no_tally

-- the tally beside a refusal is all zero, and every call refuses it with 17, on either side of a merge
pub record RefusedNone : Type 0 where
  pub of_fresh : (board : ℕ) → WithNone (fresh_of board)
  pub of_add : (t : Tally) (r : Result) → WithNone (add_of t r)
  pub of_merge : (a b : Tally) → WithNone (merge_of a b)
  pub zero : no_tally ≡ record { board = 0; deal = replicate 52 0; scores = replicate 128 (pos 0); counts = replicate 128 0 }
  pub then_add : (r : Result) → add_of no_tally r ≡ refused_with (refusal malformed_tally)
  pub then_first : (t : Tally) → merge_of no_tally t ≡ refused_with (refusal malformed_tally)
  pub then_second : (t : Tally) → merge_of t no_tally ≡ refused_with (refusal malformed_tally)
  pub then_points : (r : Result) → matchpoints_of no_tally r ≡ refused_at malformed_tally 0

-- ---- merging
-- so many results
abbrev pub many_in : Tally → ℕ
many_in t = length (scores_in t)

-- two well-formed tallies of one board, of one deal where both have a result, within 128
pub record Fit (a b : Tally) : Type 0 where
  pub first : well_formed a ≡ true
  pub second : well_formed b ≡ true
  pub one_board : a.board ≡ b.board
  pub one_deal : 1 ≤ many_in a → 1 ≤ many_in b → a.deal ≡ b.deal
  pub room : many_in a + many_in b ≤ 128

infixl 30 ◌∪◌
-- what a merge leaves: the tally of both, and where it is refused the all-zero one
abbrev pub ◌∪◌ : Tally → Tally → Tally
a ∪ b = (merge_of a b).tally

-- how merging goes, value for value
pub record Merging : Type 0 where
  -- tallies that fit are merged
  pub accepts : (a b : Tally) → Fit a b → (merge_of a b).refusal ≡ 0
  -- results of two deals are 28, whatever their number
  pub fouled : (a b : Tally) → well_formed a ≡ true → well_formed b ≡ true → a.board ≡ b.board → 1 ≤ many_in a → 1 ≤ many_in b
      → (a.deal ≡ b.deal → ⊥) → merge_of a b ≡ refused_with (refusal fouled_board)
  -- the order of two does not matter, refused or not
  pub commutes : (a b : Tally) → merge_of a b ≡ merge_of b a
  -- nor the bracketing of any three, refused or not: a merge may be declared commutative and associative
  pub associates : (a b c : Tally) → (a ∪ b) ∪ c ≡ a ∪ (b ∪ c)
  -- of three that fit two by two and are within 128 together no merge is refused, in either bracketing
  pub together : (a b c : Tally) → Fit a b → Fit b c → Fit a c → many_in a + many_in b + many_in c ≤ 128
      → ((merge_of (a ∪ b) c).refusal ≡ 0) × ((merge_of a (b ∪ c)).refusal ≡ 0)
  -- the empty tally of the board changes nothing, on either side
  pub empty_first : (t : Tally) → well_formed t ≡ true → merge_of (tally_of t.board []) t ≡ accepting t
  pub empty_second : (t : Tally) → well_formed t ≡ true → merge_of t (tally_of t.board []) ≡ accepting t

-- ---- matchpoints, over any list of results
-- the sum of a number for each result
unfoldable pub sum_for : (ℤ → ℕ) → List ℤ → ℕ
sum_for f [] = 0
sum_for f (s ∷ results) = f s + sum_for f results

-- what Law 78A's comparisons come to
pub record Matchpoints : Type 0 where
  -- compared with every other result: 2 for each result below, 1 for each equal one, less 1 for the result itself
  pub by_counts : (results : List ℤ) (s : ℤ) → 1 ≤ occurrences s results
      → ns_matchpoints results s ≡ 2 * how_many (λ (r : ℤ). lt_z r s) results + occurrences s results - 1
  -- the two sides share two for each comparison
  pub shared : (results : List ℤ) (s : ℤ) → 1 ≤ occurrences s results → ns_matchpoints results s + ew_matchpoints results s ≡ 2 * (length results - 1)
  -- the NS numbers of n results sum to n × (n − 1)
  pub totals : (results : List ℤ) → sum_for (ns_matchpoints results) results ≡ length results * (length results - 1)

-- the claim on tallies
pub record OfTallies : Type 0 where
  pub described : (t : Tally) → Described t
  pub refused_none : RefusedNone
  pub merging : Merging
  pub matchpoints : Matchpoints
