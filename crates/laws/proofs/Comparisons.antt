-- Law 78A by counts: what a score's comparisons come to, and what all results have together. Assumes nothing.
use Rattle.std.specs.Prelude.{if◌then◌else◌}
use Prim.Native.Nat.{suc, ◌≤◌, ◌+◌, ◌-◌, ◌*◌}
use native.Mathlib.Omega.{arith}
use mathlib.Core.Path.{◌≡◌, refl, ap}
use mathlib.Core.Bool.{Bool, true, false}
use mathlib.Core.List.{List, [], ◌∷◌}
use borrow.Author.Tests.{eqb-false}
use lib.Dec.{eqb}
use lib.IntN.{ℤ}
use lib.ListN.{length}
use lib.Signed.{lt_z}
use Rattle.laws.specs.Choice.{how_many}
use Rattle.laws.specs.Law77.{valid_score}
use Rattle.laws.specs.Law78.{same_score, occurrences, comparison, comparisons, others, ns_matchpoints, ew_matchpoints, matchpoints}
use Rattle.laws.specs.Percentages.{most_matchpoints}
use Rattle.laws.proofs.Tests.{by_test}
use Rattle.laws.proofs.Scores.{Order, less, same, more, order, not_below_self, is_self, same_true}

-- a result is below a score
abbrev pub lower : ℤ → ℤ → Bool
lower s r = lt_z r s

-- what is below is not equal
not_equal : (s r : ℤ) → lt_z r s ≡ true → same_score s r ≡ false
not_equal s r h = go (order r s)
  where
    go : Order r s → same_score s r ≡ false
    go (less w) = w.en
    go (same e) = cc (ap (λ (z : ℤ). lt_z z s) e, h, not_below_self s)
    go (more w) = w.ne

-- ---- one result against a list
one-comparison : (s r : ℤ) → comparison s r ≡ 2 * (if lt_z r s then 1 else 0) + (if same_score s r then 1 else 0)
unfolding comparison
one-comparison s r =
    by_test (lt_z r s)
    (λ (q : lt_z r s ≡ true). rw (q, not_equal s r q))
    (λ (q : lt_z r s ≡ false). rw q (omega arith))

all-comparisons : (s : ℤ) (l : List ℤ) → comparisons s l ≡ 2 * how_many (lower s) l + occurrences s l
unfolding comparisons occurrences how_many
all-comparisons s [] = refl
all-comparisons s (r ∷ l) = omega (arith, one-comparison s r, all-comparisons s l)

-- a result against its equal
pub with_self : (s : ℤ) → comparison s s ≡ 1
unfolding comparison
with_self s = rw (not_below_self s, is_self s)

-- against every result, itself among them: one more than against every other
pub but_one : (s : ℤ) (l : List ℤ) → 1 ≤ occurrences s l → comparisons s l ≡ suc (ns_matchpoints l s)
unfolding occurrences how_many ns_matchpoints comparisons others
but_one s [] h = absurd (omega arith)
but_one s (r ∷ l) h =
    by_test (same_score s r)
    (λ (q : same_score s r ≡ true).
    let g : comparison s r ≡ 1 = rw (← same_true s r q) (with_self s) in
    rw q (omega arith))
    (λ (q : same_score s r ≡ false).
    let g = rw q at h in
    let k = but_one s l (omega arith) in
    rw q (omega arith))

-- 2 for each result below, 1 for each equal, less 1 for the result itself
pub ns-counts : (s : ℤ) (l : List ℤ) → 1 ≤ occurrences s l → ns_matchpoints l s ≡ 2 * how_many (lower s) l + occurrences s l - 1
ns-counts s l h = omega (arith, all-comparisons s l, but_one s l h)

-- a result is below, equal, or neither
pub below_equal : (s : ℤ) (l : List ℤ) → how_many (lower s) l + occurrences s l ≤ length l
unfolding occurrences how_many
below_equal s [] = omega arith
below_equal s (r ∷ l) =
    by_test (lt_z r s)
    (λ (q : lt_z r s ≡ true). rw (q, not_equal s r q) (omega (arith, below_equal s l)))
    (λ (q : lt_z r s ≡ false). rw q (by_test (same_score s r)
    (λ (p : same_score s r ≡ true). rw p (omega (arith, below_equal s l)))
    (λ (p : same_score s r ≡ false). rw p (omega (arith, below_equal s l)))))

-- both sides together have the most that one can have
pub both_most : (l : List ℤ) (s : ℤ) → 1 ≤ occurrences s l → ns_matchpoints l s + ew_matchpoints l s ≡ most_matchpoints l
unfolding ew_matchpoints most_matchpoints
both_most l s h = omega (arith, ns-counts s l h, below_equal s l)

-- ---- lists of the same results give the same matchpoints
pub same_points : (l m : List ℤ) → length l ≡ length m → ((test : ℤ → Bool) → how_many test l ≡ how_many test m) → (s : ℤ) → matchpoints l s ≡ matchpoints m s
unfolding matchpoints ew_matchpoints occurrences
same_points l m n h s =
    let o : occurrences s l ≡ occurrences s m = h (same_score s) in
    by_test (valid_score s)
    (λ (v : valid_score s ≡ true). rw v (by_test (eqb (occurrences s m) 0)
    (λ (q : eqb (occurrences s m) 0 ≡ true). rw (o, q))
    (λ (q : eqb (occurrences s m) 0 ≡ false).
    let z = eqb-false (occurrences s m) 0 q in
    let k : 1 ≤ occurrences s m = omega arith in
    let j : 1 ≤ occurrences s l = omega arith in
    let e : ns_matchpoints l s ≡ ns_matchpoints m s = omega (arith, ns-counts s l j, ns-counts s m k, h (lower s)) in
    rw (o, q, e, n))))
    (λ (v : valid_score s ≡ false). rw v)
