-- Matchpoints over any list of results: by counts, shared by the two sides, and n × (n − 1) in all. Assumes nothing.
use Prim.Native.Nat.{ℕ, zero, suc, ◌≤◌, ◌+◌, ◌-◌, ◌*◌}
use native.Mathlib.Nat.{mul-suc, suc-mul}
use native.Mathlib.Omega.{arith}
use mathlib.Core.Path.{◌≡◌, refl, sym, ◌∙◌}
use mathlib.Core.List.{List, [], ◌∷◌}
use lib.IntN.{ℤ}
use lib.ListN.{length}
use Rattle.laws.specs.Choice.{how_many}
use Rattle.laws.specs.Law78.{occurrences, comparison, comparisons, ns_matchpoints, ew_matchpoints}
use Rattle.laws.proofs.Scores.{Below, Order, less, same, more, order, is_self}
use Rattle.laws.proofs.Comparisons.{with_self, but_one, ns-counts, below_equal}
use Rattle.promises_tallies.specs.Tallies.{sum_for, Matchpoints}

sum_more : (f g : ℤ → ℕ) (l : List ℤ) → ((s : ℤ) → 1 ≤ occurrences s l → f s ≡ suc (g s)) → sum_for f l ≡ length l + sum_for g l
unfolding sum_for occurrences how_many
sum_more f g [] h = refl
sum_more f g (s ∷ l) h =
    let o : 1 ≤ occurrences s (s ∷ l) = rw (is_self s) (omega arith) in
    omega (arith, h s o, sum_more f g l (λ r k. h r (omega arith)))

-- two results share two matchpoints
lower_takes : (s r : ℤ) → Below s r → comparison s r + comparison r s ≡ 2
unfolding comparison
lower_takes s r w = rw (w.ge, w.ne, w.lt)

both_ways : (s r : ℤ) → comparison s r + comparison r s ≡ 2
both_ways s r = go (order s r)
  where
    go : Order s r → comparison s r + comparison r s ≡ 2
    go (less w) = lower_takes s r w
    go (more w) = omega (arith, lower_takes r s w)
    go (same e) = rw e (omega (arith, with_self r))

-- one against the others, and the others against it
round : (x : ℤ) (l : List ℤ) → comparisons x l + sum_for (λ (s : ℤ). comparison s x) l ≡ 2 * length l
unfolding comparisons sum_for
round x [] = refl
round x (s ∷ l) = omega (arith, round x l, both_ways x s)

sum_and : (f g : ℤ → ℕ) (l : List ℤ) → sum_for (λ (s : ℤ). f s + g s) l ≡ sum_for f l + sum_for g l
unfolding sum_for
sum_and f g [] = refl
sum_and f g (s ∷ l) = omega (arith, sum_and f g l)

square : (l : List ℤ) → sum_for (λ (s : ℤ). comparisons s l) l ≡ length l * length l
unfolding sum_for comparisons
square [] = refl
square (x ∷ l) =
    omega (
      arith,
      with_self x,
      sum_and (λ (s : ℤ). comparison s x) (λ (s : ℤ). comparisons s l) l,
      round x l,
      square l,
      mul-suc (suc (length l)) (length l),
      suc-mul (length l) (length l),
    )

one_less_lem : (n k : ℕ) → n * n ≡ n + k → k ≡ n * (n - 1)
one_less_lem zero k e = omega arith
one_less_lem (suc n) k e = let d : suc n - 1 ≡ n = omega arith in rw d (omega (arith, mul-suc (suc n) n))

totals : (l : List ℤ) → sum_for (ns_matchpoints l) l ≡ length l * (length l - 1)
totals l = one_less_lem (length l) (sum_for (ns_matchpoints l) l) (sym (square l) ∙ sum_more (λ (s : ℤ). comparisons s l) (ns_matchpoints l) l (λ s h. but_one s l h))

shared : (l : List ℤ) (s : ℤ) → 1 ≤ occurrences s l → ns_matchpoints l s + ew_matchpoints l s ≡ 2 * (length l - 1)
unfolding ew_matchpoints
shared l s h = omega (arith, ns-counts s l h, below_equal s l)

pub matchpoints : Matchpoints
matchpoints = record { by_counts = λ l s h. ns-counts s l h; shared = shared; totals = totals }
