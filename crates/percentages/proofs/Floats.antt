-- Percentages as floats: the two whole numbers are held exactly, and the division rounds once. Assumes nothing.
use Prim.Native.Nat.{ℕ, zero, suc, ◌+◌, ◌*◌, ◌^◌, ◌≤◌, ◌<◌}
use native.Mathlib.Nat.{mul-one, mul_comm, mul_assoc, mul-pos}
use native.Mathlib.Omega.{arith}
use mathlib.Core.Path.{◌≡◌, sym, ap, ◌∙◌}
use mathlib.Core.Bool.{Bool, true, false, not}
use borrow.Author.Tests.{ne_eqb}
use lib.Dec.{T, ltb, le→leb}
use lib.IntN.{pos}
use lib.Ieee.{Float, nan, inf, fin, Format, binary64, prec, emax, low, up, down, round, units, odd, of_int, div, to_unsigned, in_float, le, is_nan}
use lib.Ieee.Back.{unsigned_back, round_whole}
use lib.Ieee.Exact.{HasValue}
use lib.Ieee.Fits.{down_pos, round_is}
use lib.Ieee.Order.{round_mono}
use lib.Ieee.Scale.{round_same}
use Rattle.laws.specs.Percentages.{as_float, percentage}
use Rattle.laws.proofs.Tests.{by_test}

-- every number below 2 ^ 32 is held exactly
held : (n : ℕ) → n < 4294967296 → n ≤ 2 ^ prec binary64
held n h = omega arith

in_float_lem : (n : ℕ) → n < 4294967296 → T (in_float binary64 (pos n))
unfolding in_float
in_float_lem n h = le→leb n (2 ^ prec binary64) (held n h)

-- as a float and back
pub exactly : (n : ℕ) → n < 4294967296 → to_unsigned 32 (as_float n) ≡ n
exactly n h = (unsigned_back binary64 32 n (in_float_lem n h) h).1

own_value : (n : ℕ) → n < 4294967296 → HasValue (as_float n) false n 1
unfolding of_int
own_value n h = round_whole binary64 false n (held n h)

-- ---- the division
-- a fraction of two fractions, taken together: x / de is a and y / dd is b, all whole
cross : (x y de dd a b : ℕ) → x * 1 ≡ a * de → y * 1 ≡ b * dd → x * dd * b ≡ a * (y * de)
cross x y de dd a b ex ey =
    let p : x ≡ a * de = sym (mul-one x) ∙ ex in
    let q : y ≡ b * dd = sym (mul-one y) ∙ ey in
    ap (λ (z : ℕ). z * dd * b) p
    ∙ ap (λ (z : ℕ). z * b) (mul_assoc a de dd)
    ∙ mul_assoc a (de * dd) b
    ∙ ap (λ (z : ℕ). a * z) (mul_comm (de * dd) b ∙ ap (λ (z : ℕ). b * z) (mul_comm de dd) ∙ sym (mul_assoc b dd de) ∙ ap (λ (z : ℕ). z * de) (sym q))

above : (y b dd : ℕ) → y * 1 ≡ b * dd → 0 < b → 0 < dd → 0 < y
above y b dd e hb hd = omega (arith, e, mul-pos hb hd)

first_above : (n u : ℕ) → 0 < n * u → n ≡ 0 → ⊥
first_above n u h e = omega (arith, rw e at h)

-- two whole numbers divided: the fraction rounded, once
quotient : (x y : Float) (a b : ℕ) → HasValue x false a 1 → HasValue y false b 1 → 0 < b → div binary64 x y ≡ round binary64 false a b
unfolding div
quotient nan y a b v w h = absurd v
quotient (inf s) y a b v w h = absurd v
quotient (fin s m e) nan a b v w h = absurd w
quotient (fin s m e) (inf t) a b v w h = absurd w
quotient (fin s m e) (fin t n d) a b v w h =
    let pos_y = above (n * up d) b (down d) w.1 h (down_pos d) in
    rw (ne_eqb n 0 (first_above n (up d) pos_y), v.0, w.0)
    (round_same binary64 false (m * up e * down d) (n * up d * down e) a b (mul-pos pos_y (down_pos e)) h
    (cross (m * up e) (n * up d) (down e) (down d) a b v.1 w.1))

module _ (points most : ℕ) (few : 100 * points < 4294967296) (small : most < 4294967296) (some : 0 < most) where
  -- the percentage is the exact fraction rounded to the nearest float
  pub once : percentage points most ≡ round binary64 false (100 * points) most
  unfolding percentage
  once = quotient (as_float (100 * points)) (as_float most) (100 * points) most (own_value (100 * points) few) (own_value most small) some

  -- it is not below 0, and not above 100 where the points are not above the most
  pub at_least_0 : T (le (as_float 0) (percentage points most))
  unfolding of_int
  at_least_0 = rw once (round_mono binary64 0 1 (100 * points) most (omega arith) some (omega arith))

  pub at_most_100 : points ≤ most → T (le (percentage points most) (as_float 100))
  unfolding of_int
  at_most_100 h = rw once (round_mono binary64 (100 * points) most 100 1 some (omega arith) (omega arith))

  pub all-points : points ≡ most → percentage points most ≡ as_float 100
  unfolding of_int
  all-points e = once ∙ round_same binary64 false (100 * points) most 100 1 some (omega arith) (omega arith)

  pub no_points : points ≡ 0 → percentage points most ≡ as_float 0
  unfolding of_int
  no_points e = once ∙ round_same binary64 false (100 * points) most 0 1 some (omega arith) (omega arith)

-- ---- no percentage is a NaN, so each has a bit pattern of its own
odd_number : (d : ℕ) (s : Bool) (q k l : ℕ) → T (not (is_nan (odd d s q k l)))
unfolding odd is_nan
odd_number d s zero k l = tt
odd_number d s (suc q) k l = tt

units_number : (f : Format) (s : Bool) (q k : ℕ) → T (not (is_nan (units f s q k)))
unfolding units is_nan
units_number f s q k =
    let test = ltb (q * 2 ^ k) (2 ^ (low f + suc (emax f))) in
    by_test test
    (λ (e : test ≡ true). rw e (odd_number (suc (prec f)) s q k (low f)))
    (λ (e : test ≡ false). rw e tt)

round_number : (f : Format) (s : Bool) (a b : ℕ) → T (not (is_nan (round f s a b)))
round_number f s a b = rw (round_is f s a b) (units_number f s _ _)

pub whole-number : (n : ℕ) → T (not (is_nan (as_float n)))
unfolding of_int
whole-number n = round_number binary64 false n 1

pub percentage-number : (points most : ℕ) → 100 * points < 4294967296 → most < 4294967296 → 0 < most → T (not (is_nan (percentage points most)))
percentage-number points most few small some = rw (once points most few small some) (round_number binary64 false (100 * points) most)
