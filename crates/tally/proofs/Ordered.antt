-- Entries in order: valid scores that fall, each with a result; how many results pass a test; such entries are what their counts say.
-- Assumes nothing.
use Rattle.std.specs.Prelude.{if◌then◌else◌}
use Prim.Native.Nat.{ℕ, zero, suc, ◌≤◌, ◌+◌}
use native.Mathlib.Omega.{arith}
use mathlib.Core.Path.{◌≡◌, refl, ap, ◌∙◌}
use mathlib.Core.Bool.{Bool, true, false}
use mathlib.Core.List.{List, [], ◌∷◌}
use borrow.Author.Tests.{lt-ltb, le-ltb, ne_eqb}
use lib.IntN.{ℤ, pos, negsuc}
use lib.ListN.{drop}
use lib.Signed.{lt_z}
use Rattle.laws.specs.Law77.{valid_score}
use Rattle.laws.specs.Law78.{same_score}
use Rattle.laws.proofs.Tests.{not_both}
use Rattle.laws.proofs.Scores.{Below, Order, less, same, more, order, below_trans, not_below_self, is_self}
use Rattle.score.proofs.Validity.{valid-size}
use Rattle.tally.specs.declared.Entry.{Entry}
use Rattle.tally.specs.Entries.{score, count}
use Rattle.tally.specs.Tallies.{ceiling}

-- ---- results of entries
-- how many results of the entries pass a test of the score
abbrev pub in_entries : (ℤ → Bool) → List Entry → ℕ
in_entries test [] = 0
in_entries test (e ∷ es) = (if test (score e) then count e else 0) + in_entries test es

-- how many results are of a score
abbrev pub count_of : ℤ → List Entry → ℕ
count_of s es = in_entries (same_score s) es

-- all results
abbrev pub sum_of : List Entry → ℕ
sum_of [] = 0
sum_of (e ∷ es) = count e + sum_of es

-- ---- order
-- valid scores that fall from below top, each with a count of at least 1
abbrev pub Ordered : ℤ → List Entry → Type 0
Ordered top [] = Unit {0}
Ordered top (e ∷ es) = (valid_score (score e) ≡ true) × (lt_z (score e) top ≡ true) × (1 ≤ count e) × Ordered (score e) es

-- a valid score is below the ceiling, and above the score that stands for no entry
pub valid-low : (s : ℤ) → valid_score s ≡ true → lt_z s ceiling ≡ true
valid-low (pos n) v = lt-ltb n 7601 (omega (arith, valid-size (pos n) v))
valid-low (negsuc n) v = refl

pub valid-high : (s : ℤ) → valid_score s ≡ true → Below (negsuc 7600) s
valid-high (pos n) v = record { lt = refl; ge = refl; ne = refl; en = refl }
valid-high (negsuc n) v =
    let h = valid-size (negsuc n) v in
    record { lt = lt-ltb n 7600 (omega arith); ge = le-ltb 7600 n (omega arith); ne = ne_eqb 7600 n (λ e. omega arith); en = ne_eqb n 7600 (λ e. omega arith) }

-- under a higher top
pub lift : (top y : ℤ) (es : List Entry) → lt_z top y ≡ true → Ordered top es → Ordered y es
lift top y [] h w = tt
lift top y (e ∷ es) h w = (w.0, below_trans (score e) top y w.1 h, w.2, w.3)

pub tail_ordered : (top : ℤ) (es : List Entry) → Ordered top es → Ordered ceiling (drop 1 es)
tail_ordered top [] w = tt
tail_ordered top (e ∷ es) w = lift (score e) ceiling es (valid-low (score e) w.0) w.3

pub drop_ordered : (i : ℕ) (es : List Entry) → Ordered ceiling es → Ordered ceiling (drop i es)
drop_ordered zero es w = w
drop_ordered (suc i) [] w = tt
drop_ordered (suc i) (e ∷ es) w = drop_ordered i es (lift (score e) ceiling es (valid-low (score e) w.0) w.3)

-- what is not below the top is above what is
beyond : (y s top : ℤ) → lt_z y top ≡ false → lt_z s top ≡ true → Below s y
beyond y s top n h = go (order s y)
  where
    go : Order s y → Below s y
    go (less w) = w
    go (same e) = not_both (lt_z y top) (rw e at h) n
    go (more w) = not_both (lt_z y top) (below_trans y s top w.lt h) n

-- no result of a score that is not below the top
pub none_at : (top y : ℤ) (es : List Entry) → lt_z y top ≡ false → Ordered top es → count_of y es ≡ 0
none_at top y [] n w = refl
none_at top y (e ∷ es) n w = let b = beyond y (score e) top n w.1 in rw b.en (omega (arith, none_at (score e) y es b.ge w.3))

-- the results of the first entry's score are its own
pub some_at : (e : Entry) (es : List Entry) → Ordered (score e) es → count_of (score e) (e ∷ es) ≡ count e
some_at e es w = rw (is_self (score e)) (omega (arith, none_at (score e) (score e) es (not_below_self (score e)) w))

-- ---- entries are known by their counts
module _ (x : Entry) (rest : ℤ → ℕ) (one : 1 ≤ count x) (lower : (y : ℤ) → lt_z y (score x) ≡ false → rest y ≡ 0) where
  at_x : count_of (score x) (x ∷ []) ≡ count x
  at_x = some_at x [] tt

  next_at : (top : ℤ) (e : Entry) (es : List Entry) → Ordered top (e ∷ es) → ((y : ℤ) → count_of y (e ∷ es) ≡ count_of y (x ∷ []) + rest y)
      → Order (score e) (score x)
      → (e ≡ x) × ((y : ℤ) → count_of y es ≡ rest y)
  next_at top e es o h (less b) =
      absurd
      (omega (arith, h (score x), at_x, none_at (score x) (score x) (e ∷ es) (not_below_self (score x)) (o.0, b.lt, o.2, o.3)))
  next_at top e es o h (more b) =
      let z : count_of (score e) (x ∷ []) ≡ 0 = rw b.en in
      absurd (omega (arith, h (score e), some_at e es o.3, lower (score e) b.ge, o.2))
  next_at top e es o h (same s) =
      let z : rest (score e) ≡ 0 = lower (score e) (rw s (not_below_self (score x))) in
      let f : count_of (score e) (x ∷ []) ≡ count x = rw s at_x in
      let k : count e ≡ count x = omega (arith, h (score e), some_at e es o.3) in
      (rw (← s, ← k), λ y. let r = rw (s, k) at (h y) in omega arith)

  -- entries whose counts are those of x and of lower scores begin with x
  pub next : (top : ℤ) (es : List Entry) → Ordered top es → ((y : ℤ) → count_of y es ≡ count_of y (x ∷ []) + rest y)
      → (es ≡ x ∷ drop 1 es) × ((y : ℤ) → count_of y (drop 1 es) ≡ rest y)
  next top [] o h = absurd (omega (arith, h (score x), at_x))
  next top (e ∷ es) o h =
      let r = next_at top e es o h (order (score e) (score x)) in
      (ap (λ (z : Entry). z ∷ es) r.0, r.1)

-- entries without a result are none
pub no_entries : (top : ℤ) (es : List Entry) → Ordered top es → ((y : ℤ) → count_of y es ≡ 0) → es ≡ []
no_entries top [] o h = refl
no_entries top (e ∷ es) o h = absurd (omega (arith, h (score e), some_at e es o.3, o.2))

-- entries with the same counts are the same
pub unique : (top high : ℤ) (a b : List Entry) → Ordered top a → Ordered high b → ((y : ℤ) → count_of y a ≡ count_of y b) → a ≡ b
unique top high a [] v w h = no_entries top a v h
unique top high a (e ∷ es) v w h =
    let r =
    next e (λ (y : ℤ). count_of y es) w.2 (λ (y : ℤ) n. none_at (score e) y es n w.3) top a v
    (λ (y : ℤ). h y ∙ one-first (if same_score y (score e) then count e else 0) (count_of y es)) in
    r.0 ∙ ap (λ (l : List Entry). e ∷ l) (unique ceiling (score e) (drop 1 a) es (tail_ordered top a v) w.3 r.1)
  where
    one-first : (n m : ℕ) → n + m ≡ n + 0 + m
    one-first n m = omega arith
