-- Laws of `how_many` and `some_below`, over any test; and a test over a whole table. Assumes nothing.
use Rattle.std.specs.Prelude.{if◌then◌else◌}
use Prim.Native.Nat.{ℕ, zero, suc, ◌≤◌, ◌<◌, ◌+◌}
use native.Mathlib.Nat.{zero-add}
use native.Mathlib.Omega.{arith}
use mathlib.Core.Path.{◌≡◌, refl}
use mathlib.Core.Bool.{Bool, true, false, ◌&&◌}
use mathlib.Core.List.{List, [], ◌∷◌, ◌++◌}
use borrow.Author.Tests.{eqb-true, eqb-false}
use lib.Dec.{eqb}
use lib.ListN.{length, get_or, drop}
use lib.Seq.{drop-cons}
use Rattle.laws.specs.Choice.{how_many, some_below}
use Rattle.laws.proofs.Tests.{by_test, not_both, and_left, and_right}

module _ {A : Type 0} (test : A → Bool) where
  pub many_append : (l m : List A) → how_many test (l ++ m) ≡ how_many test l + how_many test m
  unfolding how_many
  many_append [] m = omega arith
  many_append (x ∷ l) m = omega (arith, many_append l m)

  pub many-le : (l : List A) → how_many test l ≤ length l
  unfolding how_many
  many-le [] = omega arith
  many-le (x ∷ l) =
      by_test (test x)
      (λ (q : test x ≡ true). rw q (omega (arith, many-le l)))
      (λ (q : test x ≡ false). rw q (omega (arith, many-le l)))

  -- counted from a place on: that place, and the places after it
  pub many-drop : (d : A) (l : List A) (i : ℕ) → i < length l → how_many test (drop i l) ≡ (if test (get_or l i d) then 1 else 0) + how_many test (drop (suc i) l)
  unfolding how_many
  many-drop d l i h = rw (drop-cons l i d h)

-- a count that is not 0 is a member that passes, and such a member a count that is not 0
module _ {A : Type 0} (test : A → Bool) (d : A) where
  pub many-place : (l : List A) → 0 < how_many test l → (i : ℕ) × (i < length l) × (test (get_or l i d) ≡ true)
  unfolding how_many
  many-place [] h = absurd (omega arith)
  many-place (x ∷ l) h = by_front (many-place l) (test x) refl
    where
      by_front : (0 < how_many test l → (i : ℕ) × (i < length l) × (test (get_or l i d) ≡ true)) → (b : Bool) → test x ≡ b
          → (i : ℕ) × (i < length (x ∷ l)) × (test (get_or (x ∷ l) i d) ≡ true)
      by_front more true e = (0, omega arith, e)
      by_front more false e = let r = more (rw (e, zero-add) at h) in (suc r.0, omega arith, r.2)

  pub place-many : (l : List A) (i : ℕ) → i < length l → test (get_or l i d) ≡ true → 0 < how_many test l
  unfolding how_many
  place-many [] i h e = absurd (omega arith)
  place-many (x ∷ l) zero h e = rw e (omega arith)
  place-many (x ∷ l) (suc i) h e = omega (arith, place-many l i (omega arith) e)

-- a number up to n that passes the test, where n does not, is below n
under : (test : ℕ → Bool) (n k : ℕ) → k < suc n → test n ≡ false → test k ≡ true → k < n
under test n k h q e =
    by_test (eqb k n)
    (λ (r : eqb k n ≡ true). not_both (test n) (rw (eqb-true k n r) at e) q)
    (λ (r : eqb k n ≡ false). omega (arith, eqb-false k n r))

module _ (test : ℕ → Bool) where
  -- some number below n passes the test: here is one
  pub below-some : (n : ℕ) → some_below n test ≡ true → (k : ℕ) × (k < n) × (test k ≡ true)
  unfolding some_below
  below-some zero e = not_both false e refl
  below-some (suc n) e =
      by_test (test n)
      (λ (q : test n ≡ true). (n, omega arith, q))
      (λ (q : test n ≡ false). let r = below-some n (rw q at e) in (r.0, omega arith, r.2))

  pub some_below_lem : (n k : ℕ) → k < n → test k ≡ true → some_below n test ≡ true
  unfolding some_below
  some_below_lem zero k h e = absurd (omega arith)
  some_below_lem (suc n) k h e =
      by_test (test n)
      (λ (q : test n ≡ true). rw q)
      (λ (q : test n ≡ false). rw q (some_below_lem n k (under test n k h q e) e))

-- two tests that agree below n find the same
pub some_same : (n : ℕ) (p q : ℕ → Bool) → ((k : ℕ) → k < n → p k ≡ q k) → some_below n p ≡ some_below n q
unfolding some_below
some_same zero p q e = refl
some_same (suc n) p q e = rw (e n (omega arith), some_same n p q (λ k h. e k (omega arith)))

-- a test that fails below n finds nothing
pub some-none : (n : ℕ) (test : ℕ → Bool) → ((k : ℕ) → k < n → test k ≡ false) → some_below n test ≡ false
unfolding some_below
some-none zero test e = refl
some-none (suc n) test e = rw (e n (omega arith)) (some-none n test (λ k h. e k (omega arith)))

-- whether every number below n passes a test: computed over a whole table, it gives the rule at each entry
abbrev pub every_below : ℕ → (ℕ → Bool) → Bool
every_below zero test = true
every_below (suc n) test = test n && every_below n test

pub every_below_lem : (n : ℕ) (test : ℕ → Bool) → every_below n test ≡ true → (k : ℕ) → k < n → test k ≡ true
every_below_lem zero test e k h = absurd (omega arith)
every_below_lem (suc n) test e k h =
    by_test (eqb k n)
    (λ (q : eqb k n ≡ true). rw (eqb-true k n q) (and_left (test n) (every_below n test) e))
    (λ (q : eqb k n ≡ false). every_below_lem n test (and_right (test n) (every_below n test) e) k (omega (arith, eqb-false k n q)))

-- within a list, what stands at a place does not go by the default
pub any_default : {A : Type 0} (l : List A) (i : ℕ) (d e : A) → i < length l → get_or l i d ≡ get_or l i e
any_default [] i d e h = absurd (omega arith)
any_default (x ∷ l) zero d e h = refl
any_default (x ∷ l) (suc i) d e h = any_default l i d e (omega arith)
