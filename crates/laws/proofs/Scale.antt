-- IMPs by the scale of Law 78B: the scale rises, each entry is the least size worth its IMPs, and those of two scores turned round are the negation.
-- Assumes nothing.
use Prim.Native.Nat.{ℕ, zero, suc, ◌≤◌, ◌<◌, ◌+◌, ◌-◌}
use native.Mathlib.Numerals.{add-one}
use native.Mathlib.Omega.{arith}
use mathlib.Core.Path.{◌≡◌, refl, sym, ap, ◌∙◌}
use mathlib.Core.Bool.{Bool, true, false}
use mathlib.Core.List.{List, [], ◌∷◌}
use borrow.Author.Tests.{eqb-true, ltb-true, leb-true, leb-false, le-leb}
use lib.Dec.{leb, ltb, eqb}
use lib.IntN.{ℤ, pos, negsuc, neg_ℤ, nat_abs, ◌-ℤ◌, neg_ℤ-neg_ℤ}
use lib.ListN.{length}
use Rattle.laws.specs.Choice.{how_many}
use Rattle.laws.specs.Refusals.{refused, answered, invalid_score}
use Rattle.laws.specs.Law77.{valid_score}
use Rattle.laws.specs.Law78.{lower_ends, lower_end, imps_for_size, imps_of, imps, opposite}
use Rattle.laws.proofs.Tests.{by_test}
use Rattle.laws.proofs.Counts.{many-le, every_below, every_below_lem}
use Rattle.laws.proofs.Integers.{swap_difference, size_neg}

pub at_most_24 : (size : ℕ) → imps_for_size size ≤ 24
unfolding imps_for_size lower_ends
at_most_24 size = many-le (λ end. leb end size) lower_ends

-- ---- the scale, entry by entry
pub all_24 : length lower_ends ≡ 24
unfolding lower_ends
all_24 = refl

-- three tests of an entry: it is below the next, it is worth its own number of IMPs, and one point less is worth one IMP less
abbrev below_next : ℕ → Bool
below_next i = ltb (lower_end (suc i)) (lower_end (suc (suc i)))

abbrev worth_own : ℕ → Bool
worth_own i = eqb (imps_for_size (lower_end (suc i))) (suc i)

abbrev one_less : ℕ → Bool
one_less i = eqb (imps_for_size (lower_end (suc i) - 1)) i

-- the checker computes them over the whole scale
all-below-next : every_below 23 below_next ≡ true
unfolding lower_ends lower_end
all-below-next = refl

all_worth_own : every_below 24 worth_own ≡ true
unfolding lower_ends lower_end imps_for_size how_many
all_worth_own = refl

all_one_less : every_below 24 one_less ≡ true
unfolding lower_ends lower_end imps_for_size how_many
all_one_less = refl

-- the scale rises
pub rises : (k : ℕ) → 1 ≤ k → k < 24 → lower_end k < lower_end (k + 1)
rises zero from to = absurd (omega arith)
rises (suc i) from to = rw (add-one (suc i)) (ltb-true _ _ (every_below_lem 23 below_next all-below-next i (omega arith)))

-- the k-th entry is worth k IMPs
pub worth : (k : ℕ) → 1 ≤ k → k ≤ 24 → imps_for_size (lower_end k) ≡ k
worth zero from to = absurd (omega arith)
worth (suc i) from to = eqb-true _ _ (every_below_lem 24 worth_own all_worth_own i (omega arith))

below-worth : (k : ℕ) → 1 ≤ k → k ≤ 24 → imps_for_size (lower_end k - 1) + 1 ≡ k
below-worth zero from to = absurd (omega arith)
below-worth (suc i) from to =
    let e : imps_for_size (lower_end (suc i) - 1) ≡ i = eqb-true _ _ (every_below_lem 24 one_less all_one_less i (omega arith)) in
    omega arith

-- a greater size is worth no less
reached_more : (ends : List ℕ) (size more : ℕ) → size ≤ more → how_many (λ end. leb end size) ends ≤ how_many (λ end. leb end more) ends
unfolding how_many
reached_more [] size more h = omega arith
reached_more (end ∷ ends) size more h =
    by_test (leb end size)
    (λ (q : leb end size ≡ true). rw (q, le-leb end more (omega (arith, leb-true end size q))) (omega (arith, reached_more ends size more h)))
    (λ (q : leb end size ≡ false). rw q (omega (arith, reached_more ends size more h)))

pub grows : (size more : ℕ) → size ≤ more → imps_for_size size ≤ imps_for_size more
unfolding imps_for_size
grows size more h = reached_more lower_ends size more h

-- a size is worth k IMPs or more exactly when it reaches the k-th entry
pub reaches : (k size : ℕ) → 1 ≤ k → k ≤ 24 → lower_end k ≤ size → k ≤ imps_for_size size
reaches k size from to h = omega (arith, worth k from to, grows (lower_end k) size h)

pub falls-short : (k size : ℕ) → 1 ≤ k → k ≤ 24 → size < lower_end k → imps_for_size size < k
falls-short k size from to h = omega (arith, below-worth k from to, grows size (lower_end k - 1) (omega arith))

-- no size worth k IMPs is below the k-th entry
pub least : (k size : ℕ) → 1 ≤ k → k ≤ 24 → imps_for_size size ≡ k → lower_end k ≤ size
least k size from to e =
    by_test (leb (lower_end k) size)
    (λ (q : leb (lower_end k) size ≡ true). leb-true (lower_end k) size q)
    (λ (q : leb (lower_end k) size ≡ false). absurd (omega (arith, falls-short k size from to (leb-false (lower_end k) size q))))

-- no difference is worth nothing
none_for_zero : imps_for_size 0 ≡ 0
unfolding imps_for_size lower_ends how_many
none_for_zero = refl

pub imps_neg : (z : ℤ) → imps_of (neg_ℤ z) ≡ neg_ℤ (imps_of z)
unfolding imps_of
imps_neg (pos zero) = rw none_for_zero
imps_neg (pos (suc n)) = refl
imps_neg (negsuc n) = sym (neg_ℤ-neg_ℤ (pos (imps_for_size (suc n))))

-- a board is worth at most 24 IMPs, either way
pub at_most_24_imps : (z : ℤ) → nat_abs (imps_of z) ≤ 24
unfolding imps_of
at_most_24_imps (pos n) = at_most_24 n
at_most_24_imps (negsuc n) = rw (size_neg (pos (imps_for_size (suc n)))) (at_most_24 (suc n))

-- ---- the answers, by what the tests say
module _ (a b : ℤ) where
  pub not_first : valid_score a ≡ false → imps a b ≡ refused invalid_score
  unfolding imps
  not_first p = rw p

  pub not-second : valid_score a ≡ true → valid_score b ≡ false → imps a b ≡ refused invalid_score
  unfolding imps
  not-second p q = rw (p, q)

  pub both_valid_lem : valid_score a ≡ true → valid_score b ≡ true → imps a b ≡ answered (imps_of (a -ℤ b))
  unfolding imps
  both_valid_lem p q = rw (p, q)

  -- the first is above by d, or below by d
  pub gained : (d : ℕ) → valid_score a ≡ true → valid_score b ≡ true → pos d ≡ a -ℤ b → imps a b ≡ answered (pos (imps_for_size d))
  unfolding imps_of
  gained d p q e = both_valid_lem p q ∙ ap (λ (z : ℤ). answered (imps_of z)) (sym e)

  pub lost : (d : ℕ) → valid_score a ≡ true → valid_score b ≡ true → pos d ≡ b -ℤ a → imps a b ≡ answered (neg_ℤ (pos (imps_for_size d)))
  unfolding imps_of
  lost d p q e = both_valid_lem p q ∙ ap (λ (z : ℤ). answered (imps_of z)) (swap_difference b a ∙ ap neg_ℤ (sym e)) ∙ ap answered (imps_neg (pos d))

-- ---- the theorem: IMPs of (b, a) are the negation of IMPs of (a, b)
pub imps-swapped : (a b : ℤ) → imps b a ≡ opposite (imps a b)
imps-swapped a b =
    by_test (valid_score a)
    (λ (p : valid_score a ≡ true). by_test (valid_score b)
    (λ (q : valid_score b ≡ true).
    both_valid_lem b a q p ∙ ap answered (ap imps_of (swap_difference a b) ∙ imps_neg (a -ℤ b)) ∙ sym (ap opposite (both_valid_lem a b p q)))
    (λ (q : valid_score b ≡ false). not_first b a q ∙ sym (ap opposite (not-second a b p q))))
    (λ (p : valid_score a ≡ false). by_test (valid_score b)
    (λ (q : valid_score b ≡ true). not-second b a q p ∙ sym (ap opposite (not_first a b p)))
    (λ (q : valid_score b ≡ false). not_first b a q ∙ sym (ap opposite (not_first a b p))))
