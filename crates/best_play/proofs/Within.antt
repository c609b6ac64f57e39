-- A number told from a floor to a ceiling: what a greater or a smaller one makes of it, and when no other can change it. Assumes nothing.
use Prim.Native.Nat.{ℕ, zero, suc, ◌+◌, ◌-◌, ◌<◌, ◌≤◌, max, min}
use native.Mathlib.Omega.{arith}
use mathlib.Core.Path.{◌≡◌, ◌∙◌}
use mathlib.Core.Bool.{Bool, true, false}
use borrow.Author.Tests.{leb-true, leb-false}
use lib.Dec.{leb}
use Rattle.laws.specs.BestPlay.{greatest, smallest}
use Rattle.laws.proofs.Tests.{by_test}
use Rattle.best_play.specs.Search.{within}

-- a number and what was gained before it, told between bounds that are less by as much
shifted : (low high v gained r : ℕ) → r ≡ within (low - gained) (high - gained) v → gained ≤ 1 → low ≤ high → 1 ≤ high
    → gained + r ≡ within low high (gained + v)
unfolding within
shifted low high v zero r m one order some = omega (arith, m)
shifted low high v (suc zero) r m one order some = omega (arith, m)
shifted low high v (suc (suc n)) r m one order some = absurd (omega (arith, one))

module _ (floor ceiling best : ℕ) where
  -- the greater of two, where the second is told from the first on; the smaller of two, where it is told up to the first
  module _ (so_far w : ℕ) (i : best ≡ within floor ceiling so_far) where
    up_second : so_far ≤ w → within best ceiling w ≡ within floor ceiling w
    unfolding within
    up_second l = omega (arith, i)

    up_first : w < so_far → within best ceiling w ≡ within floor ceiling so_far
    unfolding within
    up_first l = omega (arith, i)

    joined-up : within best ceiling w ≡ within floor ceiling (max so_far w)
    joined-up =
        by_test (leb so_far w)
        (λ (q : leb so_far w ≡ true). let e : max so_far w ≡ w = omega (arith, leb-true so_far w q) in rw e (up_second (leb-true so_far w q)))
        (λ (q : leb so_far w ≡ false). let e : max so_far w ≡ so_far = omega (arith, leb-false so_far w q) in rw e (up_first (leb-false so_far w q)))

    down-first : so_far ≤ w → floor ≤ ceiling → within floor best w ≡ within floor ceiling so_far
    unfolding within
    down-first l order = omega (arith, i)

    down-second : w < so_far → floor ≤ ceiling → within floor best w ≡ within floor ceiling w
    unfolding within
    down-second l order = omega (arith, i)

    joined-down : floor ≤ ceiling → within floor best w ≡ within floor ceiling (min so_far w)
    joined-down order =
        by_test (leb so_far w)
        (λ (q : leb so_far w ≡ true). let e : min so_far w ≡ so_far = omega (arith, leb-true so_far w q) in rw e (down-first (leb-true so_far w q) order))
        (λ (q : leb so_far w ≡ false). let e : min so_far w ≡ w = omega (arith, leb-false so_far w q) in rw e (down-second (leb-false so_far w q) order))

  pub raised : (so_far v gained r : ℕ) → best ≡ within floor ceiling so_far → r ≡ within (best - gained) (ceiling - gained) v → gained ≤ 1
      → best < ceiling
      → gained + r ≡ within floor ceiling (max so_far (gained + v))
  raised so_far v gained r i m one high = shifted best ceiling v gained r m one (omega arith) (omega arith) ∙ joined-up so_far (gained + v) i

  pub lowered : (so_far v gained r : ℕ) → best ≡ within floor ceiling so_far → r ≡ within (floor - gained) (best - gained) v → gained ≤ 1
      → floor < best → best ≤ ceiling
      → gained + r ≡ within floor ceiling (min so_far (gained + v))
  lowered so_far v gained r i m one low high =
      shifted floor best v gained r m one (omega arith) (omega arith) ∙ joined-down so_far (gained + v) i (omega arith)

  -- at the ceiling a greater number changes nothing, and at the floor a smaller one
  pub at_ceiling : (so_far x : ℕ) → best ≡ within floor ceiling so_far → best ≡ ceiling → floor ≤ ceiling → so_far ≤ x → best ≡ within floor ceiling x
  unfolding within
  at_ceiling so_far x i e low more = omega (arith, i)

  pub at_floor : (so_far x : ℕ) → best ≡ within floor ceiling so_far → best ≡ floor → floor ≤ ceiling → x ≤ so_far → best ≡ within floor ceiling x
  unfolding within
  at_floor so_far x i e low more = omega (arith, i)

-- 0 is told as the floor
pub none_within : (floor ceiling : ℕ) → floor ≤ ceiling → floor ≡ within floor ceiling 0
unfolding within
none_within floor ceiling low = omega arith

-- a number between them is told as it is
pub all-within : (ceiling x : ℕ) → x ≤ ceiling → within 0 ceiling x ≡ x
unfolding within
all-within ceiling x h = omega arith

-- with more numbers the greatest does not fall, and the smallest does not rise
module _ (test : ℕ → Bool) (value : ℕ → ℕ) where
  greatest-next : (n : ℕ) → greatest test value n ≤ greatest test value (suc n)
  unfolding greatest
  greatest-next n =
      by_test (test n)
      (λ (q : test n ≡ true). rw q (omega arith))
      (λ (q : test n ≡ false). rw q (omega arith))

  smallest-next : (n : ℕ) → smallest test value (suc n) ≤ smallest test value n
  unfolding smallest
  smallest-next n =
      by_test (test n)
      (λ (q : test n ≡ true). rw q (omega arith))
      (λ (q : test n ≡ false). rw q (omega arith))

  greatest-later : (n k : ℕ) → greatest test value n ≤ greatest test value (k + n)
  greatest-later n zero = let e : 0 + n ≡ n = omega arith in rw e (omega arith)
  greatest-later n (suc k) = let e : suc k + n ≡ suc (k + n) = omega arith in rw e (omega (arith, greatest-later n k, greatest-next (k + n)))

  smallest-later : (n k : ℕ) → smallest test value (k + n) ≤ smallest test value n
  smallest-later n zero = let e : 0 + n ≡ n = omega arith in rw e (omega arith)
  smallest-later n (suc k) = let e : suc k + n ≡ suc (k + n) = omega arith in rw e (omega (arith, smallest-later n k, smallest-next (k + n)))

  pub greatest_52 : (n : ℕ) → n ≤ 52 → greatest test value n ≤ greatest test value 52
  greatest_52 n h = let e : (52 - n) + n ≡ 52 = omega arith in rw e at (greatest-later n (52 - n))

  pub smallest_52 : (n : ℕ) → n ≤ 52 → smallest test value 52 ≤ smallest test value n
  smallest_52 n h = let e : (52 - n) + n ≡ 52 = omega arith in rw e at (smallest-later n (52 - n))

  -- numbers with values that have a bound
  pub greatest-most : (m : ℕ) → ((k : ℕ) → value k ≤ m) → (n : ℕ) → greatest test value n ≤ m
  unfolding greatest
  greatest-most m all zero = omega arith
  greatest-most m all (suc n) =
      by_test (test n)
      (λ (q : test n ≡ true). rw q (omega (arith, all n, greatest-most m all n)))
      (λ (q : test n ≡ false). rw q (greatest-most m all n))

  pub smallest_13 : (n : ℕ) → smallest test value n ≤ 13
  unfolding smallest
  smallest_13 zero = omega arith
  smallest_13 (suc n) =
      by_test (test n)
      (λ (q : test n ≡ true). rw q (omega (arith, smallest_13 n)))
      (λ (q : test n ≡ false). rw q (smallest_13 n))
