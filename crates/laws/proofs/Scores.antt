-- The order of scores, as the tests `lt_z` and `same_score` decide it. Assumes nothing.
use Prim.Native.Nat.{ℕ, ◌<◌}
use native.Mathlib.Nat.{lt_trans}
use native.Mathlib.Omega.{arith}
use mathlib.Core.Path.{◌≡◌, refl, ap}
use mathlib.Core.Bool.{true, false}
use borrow.Author.Tests.{lt-ltb, le-ltb, ltb-true, ltb-false, leb-true, leb-false, le-leb, eqb-true, eqb-false, eq-eqb, ne_eqb}
use lib.Dec.{ltb, eqb}
use lib.IntN.{ℤ, pos, negsuc}
use lib.Signed.{lt_z, le_z}
use Rattle.laws.specs.Law78.{same_score}
use Rattle.laws.proofs.Tests.{by_test, not_both}

-- ---- the same score
pub same_true : (a b : ℤ) → same_score a b ≡ true → a ≡ b
same_true (pos a) (pos b) e = ap pos (eqb-true a b e)
same_true (pos a) (negsuc b) e = cc
same_true (negsuc a) (pos b) e = cc
same_true (negsuc a) (negsuc b) e = ap negsuc (eqb-true a b e)

pub true_same : (a b : ℤ) → a ≡ b → same_score a b ≡ true
true_same (pos a) (pos b) e = eq-eqb a b (cc)
true_same (pos a) (negsuc b) e = cc
true_same (negsuc a) (pos b) e = cc
true_same (negsuc a) (negsuc b) e = eq-eqb a b (cc)

pub ne_same : (a b : ℤ) → (a ≡ b → ⊥) → same_score a b ≡ false
ne_same (pos a) (pos b) h = ne_eqb a b (λ e. h (ap pos e))
ne_same (pos a) (negsuc b) h = refl
ne_same (negsuc a) (pos b) h = refl
ne_same (negsuc a) (negsuc b) h = ne_eqb a b (λ e. h (ap negsuc e))

pub is_self : (a : ℤ) → same_score a a ≡ true
is_self a = true_same a a refl

-- ---- below
pub not_below_self : (a : ℤ) → lt_z a a ≡ false
not_below_self (pos a) = le-ltb a a (omega arith)
not_below_self (negsuc a) = le-ltb a a (omega arith)

pub below_trans : (a b c : ℤ) → lt_z a b ≡ true → lt_z b c ≡ true → lt_z a c ≡ true
below_trans (pos a) (pos b) (pos c) p q = lt-ltb a c (lt_trans (ltb-true a b p) (ltb-true b c q))
below_trans (pos a) (pos b) (negsuc c) p q = q
below_trans (pos a) (negsuc b) c p q = cc
below_trans (negsuc a) (pos b) (pos c) p q = refl
below_trans (negsuc a) (pos b) (negsuc c) p q = cc
below_trans (negsuc a) (negsuc b) (pos c) p q = refl
below_trans (negsuc a) (negsuc b) (negsuc c) p q = lt-ltb c a (lt_trans (ltb-true c b q) (ltb-true b a p))

-- at most, as the other order's test
pub le-not-below : (a b : ℤ) → le_z a b ≡ true → lt_z b a ≡ false
le-not-below (pos a) (pos b) e = le-ltb b a (leb-true a b e)
le-not-below (pos a) (negsuc b) e = cc
le-not-below (negsuc a) (pos b) e = refl
le-not-below (negsuc a) (negsuc b) e = le-ltb a b (leb-true b a e)

pub not-le-below : (a b : ℤ) → le_z a b ≡ false → lt_z b a ≡ true
not-le-below (pos a) (pos b) e = lt-ltb b a (leb-false a b e)
not-le-below (pos a) (negsuc b) e = refl
not-le-below (negsuc a) (pos b) e = cc
not-le-below (negsuc a) (negsuc b) e = lt-ltb a b (leb-false b a e)

pub below_at_most : (a b : ℤ) → le_z a b ≡ false → le_z b a ≡ true
below_at_most (pos a) (pos b) e = le-leb b a (omega (arith, leb-false a b e))
below_at_most (pos a) (negsuc b) e = refl
below_at_most (negsuc a) (pos b) e = not_both true refl e
below_at_most (negsuc a) (negsuc b) e = le-leb a b (omega (arith, leb-false b a e))

-- ---- a is below b, with all that the tests say of the two
pub record Below (a b : ℤ) : Type 0 where
  pub lt : lt_z a b ≡ true
  pub ge : lt_z b a ≡ false
  pub ne : same_score a b ≡ false
  pub en : same_score b a ≡ false

-- two scores compared
pub data Order (a b : ℤ) : Type 0 where
  less : Below a b → Order a b
  same : a ≡ b → Order a b
  more : Below b a → Order a b

below-pos : (a b : ℕ) → a < b → Below (pos a) (pos b)
below-pos a b h = record { lt = lt-ltb a b h; ge = le-ltb b a (omega arith); ne = ne_eqb a b (λ e. omega arith); en = ne_eqb b a (λ e. omega arith) }

below_neg : (a b : ℕ) → b < a → Below (negsuc a) (negsuc b)
below_neg a b h = record { lt = lt-ltb b a h; ge = le-ltb a b (omega arith); ne = ne_eqb a b (λ e. omega arith); en = ne_eqb b a (λ e. omega arith) }

pub order : (a b : ℤ) → Order a b
order (pos a) (pos b) =
    by_test (ltb a b)
    (λ (q : ltb a b ≡ true). less (below-pos a b (ltb-true a b q)))
    (λ (q : ltb a b ≡ false). by_test (eqb a b)
    (λ (r : eqb a b ≡ true). same (ap pos (eqb-true a b r)))
    (λ (r : eqb a b ≡ false). more (below-pos b a (omega (arith, ltb-false a b q, eqb-false a b r)))))
order (pos a) (negsuc b) = more (record { lt = refl; ge = refl; ne = refl; en = refl })
order (negsuc a) (pos b) = less (record { lt = refl; ge = refl; ne = refl; en = refl })
order (negsuc a) (negsuc b) =
    by_test (ltb a b)
    (λ (q : ltb a b ≡ true). more (below_neg b a (ltb-true a b q)))
    (λ (q : ltb a b ≡ false). by_test (eqb a b)
    (λ (r : eqb a b ≡ true). same (ap negsuc (eqb-true a b r)))
    (λ (r : eqb a b ≡ false). less (below_neg a b (omega (arith, ltb-false a b q, eqb-false a b r)))))

-- what is neither below nor the same is above
pub else_below : (a b : ℤ) → lt_z a b ≡ false → same_score a b ≡ false → lt_z b a ≡ true
else_below a b p q = go (order a b)
  where
    go : Order a b → lt_z b a ≡ true
    go (less w) = cc (w.lt, p)
    go (same e) = cc (true_same a b e, q)
    go (more w) = w.lt
