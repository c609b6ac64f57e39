-- A number that a record, or its contents, are refused with is not 0; the numbers up to the last card, and those behind it, are a record's. Assumes nothing.
use Prim.Native.Nat.{ℕ, zero, suc, ◌≤◌}
use native.Mathlib.Omega.{arith}
use mathlib.Core.Path.{◌≡◌, refl}
use mathlib.Core.Bool.{Bool, true, false, ◌&&◌, ◌||◌}
use borrow.Author.Tests.{leb-true, le-leb, eqb-true}
use lib.Dec.{leb, eqb, lit≤}
use Rattle.laws.specs.Refusals.{accepted, refuses_record, refuses_to_last_card, refuses_behind, refuses_contents}
use Rattle.laws.proofs.Tests.{by_test, not_both, and_left, and_right}

pub from_1 : (n : ℕ) → refuses_record n ≡ true → 1 ≤ n
from_1 zero e = not_both (refuses_record 0) e refl
from_1 (suc n) e = omega arith

pub not_none : {n : ℕ} → refuses_record n ≡ true → n ≡ accepted → ⊥
not_none {n} e z = omega (arith, from_1 n e)

pub contents_from_1 : (n : ℕ) → refuses_contents n ≡ true → 1 ≤ n
contents_from_1 zero e = not_both (refuses_contents 0) e refl
contents_from_1 (suc n) e = omega arith

-- ---- up to the last card, and behind it
within : (a b c d n : ℕ) → a ≤ c → d ≤ b → (leb c n && leb n d) ≡ true → (leb a n && leb n b) ≡ true
within a b c d n low high e =
    rw (
      le-leb a n (omega (arith, leb-true c n (and_left (leb c n) _ e))),
      le-leb n b (omega (arith, leb-true n d (and_right (leb c n) _ e))),
    )

pub record_to_last_card : (n : ℕ) → refuses_to_last_card n ≡ true → refuses_record n ≡ true
record_to_last_card n e =
    by_test (leb 2 n && leb n 12)
    (λ (q : (leb 2 n && leb n 12) ≡ true). rw (within 1 16 2 12 n (lit≤ tt) (lit≤ tt) q))
    (λ (q : (leb 2 n && leb n 12) ≡ false). or_too (leb 1 n && leb n 16) (rw q at e))
  where
    or_too : (a : Bool) {b : Bool} → b ≡ true → (a || b) ≡ true
    or_too true e = refl
    or_too false e = e

pub record_behind : (n : ℕ) → refuses_behind n ≡ true → refuses_record n ≡ true
record_behind n e =
    by_test (eqb n 2)
    (λ (q : eqb n 2 ≡ true). rw (eqb-true n 2 q))
    (λ (q : eqb n 2 ≡ false). rw (within 1 16 13 16 n (lit≤ tt) (lit≤ tt) (rw q at e)))
