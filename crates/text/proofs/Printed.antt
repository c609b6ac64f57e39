-- Numbers in decimal, digit by digit from the last, and how long they are. Assumes nothing.
use Prim.Native.Nat.{ℕ, zero, suc, ◌*◌, ◌/◌, ◌%◌, ◌≤◌, ◌<◌}
use native.Mathlib.Omega.{arith}
use mathlib.Core.Path.{◌≡◌}
use mathlib.Core.Bool.{true, false}
use mathlib.Core.List.{[], ◌∷◌, ◌++◌}
use borrow.Author.Tests.{lt-ltb, le-ltb, ltb-true, ltb-false}
use lib.Dec.{ltb}
use lib.ListN.{length, length-append}
use Rattle.laws.specs.Decimal.{digit, last_digits, decimal}
use Rattle.laws.proofs.Tests.{by_test}

-- any number of digits that is over the number itself is enough
enough : (most more n : ℕ) → n < most → n < more → last_digits most n ≡ last_digits more n
unfolding last_digits
enough zero more n h k = absurd (omega arith)
enough (suc most) zero n h k = absurd (omega arith)
enough (suc most) (suc more) n h k =
    by_test (ltb n 10)
    (λ (q : ltb n 10 ≡ true). rw q)
    (λ (q : ltb n 10 ≡ false).
    let ten : 10 ≤ n = ltb-false n 10 q in
    rw (q, enough most more (n / 10) (omega arith) (omega arith)))

pub one-digit : (n : ℕ) → n < 10 → decimal n ≡ digit n ∷ []
unfolding decimal last_digits
one-digit n h = rw (lt-ltb n 10 h)

pub more_digits : (n : ℕ) → 10 ≤ n → decimal n ≡ decimal (n / 10) ++ (digit (n % 10) ∷ [])
unfolding decimal last_digits
more_digits n h = rw (le-ltb n 10 h, enough n (suc (n / 10)) (n / 10) (omega arith) (omega arith))

-- one digit more for each factor of ten
pub longer : (n m k : ℕ) → 1 ≤ k → n < 10 * m → (n / 10 < m → length (decimal (n / 10)) ≤ k) → length (decimal n) ≤ suc k
longer n m k one h short =
    by_test (ltb n 10)
    (λ (q : ltb n 10 ≡ true). rw (one-digit n (ltb-true n 10 q)) (omega arith))
    (λ (q : ltb n 10 ≡ false). rw (more_digits n (ltb-false n 10 q), length-append (decimal (n / 10)) (digit (n % 10) ∷ []))
    (omega (arith, short (omega arith))))

pub length_1 : (n : ℕ) → n < 10 → length (decimal n) ≤ 1
length_1 n h = rw (one-digit n h) (omega arith)

pub length_3 : (n : ℕ) → n < 1000 → length (decimal n) ≤ 3
length_3 n h = longer n 100 2 (omega arith) h (λ g. longer (n / 10) 10 1 (omega arith) g (length_1 (n / 10 / 10)))

-- 10, 100, 1000 ..
abbrev pub tens : ℕ → ℕ
tens zero = 10
tens (suc k) = 10 * tens k

-- a number below so many tens has so many digits and one more
pub length_by : (k n : ℕ) → n < tens k → length (decimal n) ≤ suc k
length_by zero n h = length_1 n h
length_by (suc k) n h = longer n (tens k) (suc k) (omega arith) h (length_by k (n / 10))

pub length_4 : (n : ℕ) → n < 10000 → length (decimal n) ≤ 4
length_4 n h = longer n 1000 3 (omega arith) h (length_3 (n / 10))
