-- Digits read from the left: what is read, and what is left to read. Assumes nothing.
use Rattle.std.specs.Prelude.{◌⊎◌, Option, Some, None, if◌then◌else◌}
use Prim.Native.Nat.{ℕ, zero, suc, ◌+◌, ◌-◌, ◌*◌, ◌≤◌, ◌<◌}
use native.Mathlib.Numerals.{add-one}
use native.Mathlib.Omega.{arith}
use mathlib.Core.Path.{◌≡◌}
use mathlib.Core.Bool.{true, false}
use mathlib.Core.List.{List}
use borrow.Author.Tests.{le-leb, lt-leb, leb-true, leb-false}
use Rattle.laws.proofs.Tests.{by_test}
use mathlib.Core.Logic.{inl, inr}
use lib.Dec.{leb}
use lib.ListN.{length, get_or, drop, drop_of_length-le}
use lib.Seq.{drop-cons}
use Rattle.laws.specs.Decimal.{all_digits, is_number, value_after}
use Rattle.decimal.specs.Numbers.{number_on}

-- ten to a power
unfoldable pub tens : ℕ → ℕ
tens zero = 1
tens (suc i) = 10 * tens i

tens_at_most : (i : ℕ) → i ≤ 4 → tens i ≤ 10000
unfolding tens
tens_at_most zero h = omega arith
tens_at_most (suc zero) h = omega arith
tens_at_most (suc (suc zero)) h = omega arith
tens_at_most (suc (suc (suc zero))) h = omega arith
tens_at_most (suc (suc (suc (suc zero)))) h = omega arith
tens_at_most (suc (suc (suc (suc (suc i))))) h = absurd (omega arith)

-- a number of i digits, with one digit more
pub small : (n i : ℕ) → n < tens i → i ≤ 4 → n < 10000
small n i h k = omega (arith, tens_at_most i k)

pub grows : (n i d : ℕ) → n < tens i → d ≤ 9 → 10 * n + d < tens (i + 1)
unfolding tens
grows n i d h k = rw add-one (omega arith)

pub tens_zero : 0 < tens 0
unfolding tens
tens_zero = omega arith

-- what is answered after a number n, with more bytes to read
abbrev pub onward : List ℕ → ℕ → Option ℕ
onward bytes n = if all_digits bytes then Some (value_after n bytes) else None

module _ (s : List ℕ) where
  pub begins : (length s ≡ 0 → ⊥) → length s ≤ 5 → number_on s ≡ onward s 0
  unfolding number_on is_number
  begins h k =
      let one : 1 ≤ length s = omega arith in
      rw (le-leb 1 (length s) one, le-leb (length s) 5 k)

  pub none : length s ≡ 0 → None ≡ number_on s
  unfolding number_on is_number
  none e = rw (lt-leb 1 (length s) (omega arith))

  pub long : 5 < length s → None ≡ number_on s
  unfolding number_on is_number
  long h =
      let one : 1 ≤ length s = omega arith in
      rw (le-leb 1 (length s) one, lt-leb (length s) 5 h)

  module _ (i n : ℕ) (within : i < length s) where
    pub low : get_or s i 0 < 48 → None ≡ onward (drop i s) n
    unfolding all_digits
    low h = rw (drop-cons s i 0 within, lt-leb 48 (get_or s i 0) h)

    pub high : 48 ≤ get_or s i 0 → 57 < get_or s i 0 → None ≡ onward (drop i s) n
    unfolding all_digits
    high k h = rw (drop-cons s i 0 within, le-leb 48 (get_or s i 0) k, lt-leb (get_or s i 0) 57 h)

    pub other : ◌⊎◌ (get_or s i 0 < 48) (57 < get_or s i 0) → None ≡ onward (drop i s) n
    other h =
        elim h [
          | inl k ↦ low k
          | inr k ↦ by_test (leb 48 (get_or s i 0))
              (λ (t : leb 48 (get_or s i 0) ≡ true). high (leb-true _ _ t) k)
              (λ (t : leb 48 (get_or s i 0) ≡ false). low (leb-false _ _ t))
        ]

    pub goes : 48 ≤ get_or s i 0 → get_or s i 0 ≤ 57 → onward (drop i s) n ≡ onward (drop (i + 1) s) (10 * n + (get_or s i 0 - 48))
    unfolding all_digits value_after
    goes k h = rw (add-one i, drop-cons s i 0 within, le-leb 48 (get_or s i 0) k, le-leb (get_or s i 0) 57 h)

  pub ends : (i n : ℕ) → length s ≤ i → Some n ≡ onward (drop i s) n
  unfolding all_digits value_after
  ends i n h = rw (drop_of_length-le s h)
