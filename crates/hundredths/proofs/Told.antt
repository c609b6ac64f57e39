-- The shares of a result by the matchpoints that a tally answers for it. Assumes nothing.
use Prim.Native.Nat.{ℕ, ◌+◌, ◌≤◌}
use native.Mathlib.Omega.{arith}
use mathlib.Core.Path.{◌≡◌}
use mathlib.Core.Bool.{true, false}
use mathlib.Core.List.{List}
use borrow.Author.Tests.{eqb-true, eqb-false, eq-eqb, ne_eqb}
use lib.Dec.{eqb}
use lib.IntN.{ℤ}
use lib.ListN.{length}
use Rattle.laws.specs.Law77.{valid_score}
use Rattle.laws.specs.Law78.{occurrences, ns_matchpoints, ew_matchpoints, Points as BothSides, matchpoints}
use Rattle.laws.specs.Percentages.{most_matchpoints}
use Rattle.laws.specs.Refusals.{Placed, refused_at, given, placed}
use Rattle.laws.specs.Tally.{Result, scores_of, given_refusal, asked}
use Rattle.laws.proofs.Comparisons.{below_equal, both_most}
use Rattle.laws.proofs.Tests.{by_test}
use Rattle.tally.specs.declared.Tally.{Tally}
use Rattle.tally.specs.Points.{matchpoints_of}
use Rattle.tally.specs.Tallies.{results_in, well_formed}
use Rattle.hundredths.specs.Shares.{BothShares, share_in, shares_asked, shares_of_tally, share_of, shares_by}

-- ---- over a list of results
some : (n : ℕ) → eqb n 0 ≡ false → 1 ≤ n
some n e = let h = eqb-false n 0 e in omega arith

-- the matchpoints of both sides are those that can be had, and there are none of them where the result is alone
share-found : (l : List ℤ) (s : ℤ) (points : ℕ) → 1 ≤ occurrences s l → share_of points (ns_matchpoints l s + ew_matchpoints l s) ≡ share_in l points
unfolding share_of share_in most_matchpoints
share-found l s points h =
    let both = both_most l s h in
    let least = below_equal s l in
    by_test (eqb (length l) 1)
    (λ (q : eqb (length l) 1 ≡ true).
    let one = eqb-true (length l) 1 q in
    rw (q, eq-eqb (ns_matchpoints l s + ew_matchpoints l s) 0 (omega (arith, both, one))))
    (λ (q : eqb (length l) 1 ≡ false).
    let more = eqb-false (length l) 1 q in
    rw (q, ne_eqb (ns_matchpoints l s + ew_matchpoints l s) 0 (omega (arith, both, least, h, more)), both))

-- ---- by the answer for the matchpoints
abbrev pub by_points : Placed BothSides → Placed BothShares
by_points (refused_at n place) = refused_at n place
by_points (given p) = shares_by p.ns p.ew

by_list : (l : List ℤ) (s : ℤ) → by_points (placed (matchpoints l s)) ≡ placed (shares_asked l s)
unfolding matchpoints shares_asked shares_by
by_list l s =
    by_test (valid_score s)
    (λ (v : valid_score s ≡ true). rw v (by_test (eqb (occurrences s l) 0)
    (λ (o : eqb (occurrences s l) 0 ≡ true). rw o)
    (λ (o : eqb (occurrences s l) 0 ≡ false).
    let found = some (occurrences s l) o in
    rw (o, share-found l s (ns_matchpoints l s) found, share-found l s (ew_matchpoints l s) found))))
    (λ (v : valid_score s ≡ false). rw v)

-- the refusals before the answer are the same
pub by_asked : (l : List Result) (r : Result) → by_points (asked matchpoints l r) ≡ asked shares_asked l r
unfolding asked
by_asked l r =
    by_test (eqb (given_refusal l r).number 0)
    (λ (q : eqb (given_refusal l r).number 0 ≡ true). rw q (by_list (scores_of l) r.score))
    (λ (q : eqb (given_refusal l r).number 0 ≡ false). rw q)

pub by_points_lem : (t : Tally) (r : Result) → by_points (matchpoints_of t r) ≡ shares_of_tally t r
unfolding matchpoints_of shares_of_tally
by_points_lem t r =
    by_test (well_formed t)
    (λ (w : well_formed t ≡ true). rw w (by_asked (results_in t) r))
    (λ (w : well_formed t ≡ false). rw w)
