-- The cell of a result by the matchpoints that a tally answers for it. Assumes nothing.
use Prim.Native.Nat.{ℕ, ◌+◌, ◌-◌, ◌*◌, ◌/◌, ◌≤◌}
use native.Mathlib.Omega.{arith}
use mathlib.Core.Path.{◌≡◌}
use mathlib.Core.Bool.{true, false}
use mathlib.Core.List.{List}
use borrow.Author.Tests.{eqb-false}
use lib.Dec.{eqb}
use lib.IntN.{ℤ}
use lib.ListN.{length}
use Rattle.laws.specs.Refusals.{Answer, Placed, refused_at, given, placed}
use Rattle.laws.specs.Law77.{valid_score}
use Rattle.laws.specs.Law78.{occurrences, ns_matchpoints, ew_matchpoints, Points as BothSides, matchpoints}
use Rattle.laws.specs.Percentages.{most_matchpoints, ns_percentage, cell_of, cell_asked, is_award, award, Cell as Entered}
use Rattle.laws.proofs.Comparisons.{below_equal, both_most}
use Rattle.laws.specs.Tally.{Result, scores_of, given_refusal, asked}
use Rattle.laws.proofs.Tests.{by_test}
use Rattle.laws.proofs.TallyRules.{scores_on}
use Rattle.tally.specs.declared.Tally.{Tally}
use Rattle.tally.specs.Points.{matchpoints_of}
use Rattle.tally.specs.Tallies.{scores_in, results_in, well_formed}
use Rattle.tally.proofs.Formed.{formed, room-scores}
use Rattle.percentages.specs.Cells.{cell_of_tally, cell_by, Numbered}
use Rattle.percentages.proofs.Floats.{whole-number, percentage-number}

-- ---- over a list of results
-- how many results there are, by the matchpoints of both sides
pub by_both : (l : List ℤ) (s : ℤ) → 1 ≤ occurrences s l → (ns_matchpoints l s + ew_matchpoints l s) / 2 + 1 ≡ length l
unfolding most_matchpoints
by_both l s h = omega (arith, both_most l s h, below_equal s l)

pub cell-found : (l : List ℤ) (s : ℤ) → 1 ≤ occurrences s l
    → cell_by (ns_matchpoints l s) ((ns_matchpoints l s + ew_matchpoints l s) / 2 + 1) ≡ given (cell_of l s)
unfolding cell_by cell_of ns_percentage most_matchpoints
cell-found l s h = rw (by_both l s h)

-- ---- by the answer for the matchpoints
abbrev pub by_points : Placed BothSides → Placed Entered
by_points (refused_at n place) = refused_at n place
by_points (given p) = cell_by p.ns ((p.ns + p.ew) / 2 + 1)

some : (n : ℕ) → eqb n 0 ≡ false → 1 ≤ n
some n e = let h = eqb-false n 0 e in omega arith

by_list : (l : List ℤ) (s : ℤ) → by_points (placed (matchpoints l s)) ≡ placed (cell_asked l s)
unfolding matchpoints cell_asked
by_list l s =
    by_test (valid_score s)
    (λ (v : valid_score s ≡ true). rw v (by_test (eqb (occurrences s l) 0)
    (λ (o : eqb (occurrences s l) 0 ≡ true). rw o)
    (λ (o : eqb (occurrences s l) 0 ≡ false). rw o (cell-found l s (some (occurrences s l) o)))))
    (λ (v : valid_score s ≡ false). rw v)

-- the refusals before the answer are the same
pub by_asked : (l : List Result) (r : Result) → by_points (asked matchpoints l r) ≡ asked cell_asked l r
unfolding asked
by_asked l r =
    by_test (eqb (given_refusal l r).number 0)
    (λ (q : eqb (given_refusal l r).number 0 ≡ true). rw q (by_list (scores_of l) r.score))
    (λ (q : eqb (given_refusal l r).number 0 ≡ false). rw q)

pub by_points_lem : (t : Tally) (r : Result) → by_points (matchpoints_of t r) ≡ cell_of_tally t r
unfolding matchpoints_of cell_of_tally
by_points_lem t r =
    by_test (well_formed t)
    (λ (w : well_formed t ≡ true). rw w (by_asked (results_in t) r))
    (λ (w : well_formed t ≡ false). rw w)

-- ---- what holds of every answer, by what holds over the scores of a tally
module _ {A : Type 0} (Holds : Placed A → Type 0) (question : List ℤ → ℤ → Answer A) (at : (n place : ℕ) → Holds (refused_at n place)) where
  by_scores : (t : Tally) (r : Result) → Holds (placed (question (scores_in t) r.score)) → Holds (asked question (results_in t) r)
  unfolding asked
  by_scores t r h =
      let g = given_refusal (results_in t) r in
      by_test (eqb g.number 0)
      (λ (q : eqb g.number 0 ≡ true). rw (q, scores_on t.deal (scores_in t)) h)
      (λ (q : eqb g.number 0 ≡ false). rw q (at g.number g.place))

-- of at most 128 results
abbrev pub Few : Placed BothSides → Type 0
Few (refused_at n place) = Unit {0}
Few (given p) = p.ns + p.ew ≤ 254

few-points : (l : List ℤ) (s : ℤ) → length l ≤ 128 → Few (placed (matchpoints l s))
unfolding matchpoints most_matchpoints
few-points l s room =
    by_test (valid_score s)
    (λ (v : valid_score s ≡ true). rw v (by_test (eqb (occurrences s l) 0)
    (λ (o : eqb (occurrences s l) 0 ≡ true). rw o tt)
    (λ (o : eqb (occurrences s l) 0 ≡ false). rw o (omega (arith, both_most l s (some (occurrences s l) o), room)))))
    (λ (v : valid_score s ≡ false). rw v tt)

pub few : (t : Tally) (r : Result) → Few (matchpoints_of t r)
unfolding matchpoints_of
few t r =
    by_test (well_formed t)
    (λ (w : well_formed t ≡ true).
    rw w (by_scores Few matchpoints (λ n place. tt) t r (few-points (scores_in t) r.score (room-scores t (formed t w)))))
    (λ (w : well_formed t ≡ false). rw w tt)

-- ---- the float of an answer is a number
scores-numbered : (l : List ℤ) (s : ℤ) → length l ≤ 128 → Numbered (placed (cell_asked l s))
unfolding cell_asked cell_of ns_percentage most_matchpoints
scores-numbered l s room =
    by_test (valid_score s)
    (λ (v : valid_score s ≡ true). rw v (by_test (eqb (occurrences s l) 0)
    (λ (o : eqb (occurrences s l) 0 ≡ true). rw o tt)
    (λ (o : eqb (occurrences s l) 0 ≡ false). rw o (by_test (eqb (length l) 1)
    (λ (n : eqb (length l) 1 ≡ true). rw n tt)
    (λ (n : eqb (length l) 1 ≡ false).
    let one = some (occurrences s l) o in
    let both = both_most l s one in
    let more = eqb-false (length l) 1 n in
    let least = below_equal s l in
    rw n (percentage-number (ns_matchpoints l s) (2 * (length l - 1)) (omega arith) (omega arith) (omega arith)))))))
    (λ (v : valid_score s ≡ false). rw v tt)

pub cell-numbered : (t : Tally) (r : Result) → Numbered (cell_of_tally t r)
unfolding cell_of_tally
cell-numbered t r =
    by_test (well_formed t)
    (λ (w : well_formed t ≡ true).
    rw w (by_scores Numbered cell_asked (λ n place. tt) t r (scores-numbered (scores_in t) r.score (room-scores t (formed t w)))))
    (λ (w : well_formed t ≡ false). rw w tt)

pub award-numbered : (n : ℕ) → Numbered (placed (award n))
unfolding award
award-numbered n =
    by_test (is_award n)
    (λ (e : is_award n ≡ true). rw e (whole-number n))
    (λ (e : is_award n ≡ false). rw e tt)
