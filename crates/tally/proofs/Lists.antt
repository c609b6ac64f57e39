-- The entries of a list of scores, and the list of scores of entries. Assumes nothing.
use Rattle.std.specs.Prelude.{if◌then◌else◌}
use Prim.Native.Nat.{ℕ, zero, suc, ◌+◌}
use native.Mathlib.Omega.{arith}
use mathlib.Core.Path.{◌≡◌, refl, sym, ap, ◌∙◌}
use mathlib.Core.Bool.{Bool, true, false}
use mathlib.Core.List.{List, [], ◌∷◌, ◌++◌}
use lib.IntN.{ℤ}
use lib.ListN.{length, replicate, length-append, length-replicate}
use lib.Signed.{lt_z}
use Rattle.laws.specs.Choice.{how_many}
use Rattle.laws.specs.Law77.{valid_score}
use Rattle.laws.specs.Law78.{same_score, occurrences}
use Rattle.laws.specs.Tally.{AllValid, SameScores}
use Rattle.laws.proofs.Tests.{by_test}
use Rattle.laws.proofs.Scores.{same_true, else_below}
use Rattle.laws.proofs.Counts.{many_append}
use Rattle.tally.specs.declared.Entry.{Entry}
use Rattle.tally.specs.Entries.{score, count, expand, enter, entries_of}
use Rattle.tally.specs.Tallies.{ceiling}
use Rattle.tally.proofs.Ordered.{in_entries, count_of, sum_of, Ordered, valid-low, unique}

-- ---- how many pass a test
module _ (test : ℤ → Bool) where
  many-replicate : (b : Bool) (n : ℕ) (s : ℤ) → test s ≡ b → how_many test (replicate n s) ≡ (if b then n else 0)
  unfolding how_many
  many-replicate true zero s q = refl
  many-replicate false zero s q = refl
  many-replicate true (suc n) s q = rw q (omega (arith, many-replicate true n s q))
  many-replicate false (suc n) s q = rw q (omega (arith, many-replicate false n s q))

  pub in_expand : (es : List Entry) → how_many test (expand es) ≡ in_entries test es
  unfolding how_many expand
  in_expand [] = refl
  in_expand (e ∷ es) =
      omega (arith, many_append test (replicate (count e) (score e)) (expand es), many-replicate (test (score e)) (count e) (score e) refl, in_expand es)

  more_of : (b : Bool) (c r : ℕ) → (if b then c + 1 else 0) + r ≡ (if b then 1 else 0) + ((if b then c else 0) + r)
  more_of true c r = omega arith
  more_of false c r = omega arith

  pub in_enter : (s : ℤ) (es : List Entry) → in_entries test (enter s es) ≡ (if test s then 1 else 0) + in_entries test es
  unfolding enter
  in_enter s [] = refl
  in_enter s (e ∷ es) =
      by_test (lt_z s (score e))
      (λ (q : lt_z s (score e) ≡ true). rw q (omega (arith, in_enter s es)))
      (λ (q : lt_z s (score e) ≡ false). rw q (by_test (same_score s (score e))
      (λ (r : same_score s (score e) ≡ true). rw r (rw (same_true s (score e) r) (more_of (test (score e)) (count e) (in_entries test es))))
      (λ (r : same_score s (score e) ≡ false). rw r)))

  pub in_list : (l : List ℤ) → in_entries test (entries_of l) ≡ how_many test l
  unfolding how_many entries_of
  in_list [] = refl
  in_list (s ∷ l) = in_enter s (entries_of l) ∙ ap (λ (n : ℕ). (if test s then 1 else 0) + n) (in_list l)

pub sum_enter : (s : ℤ) (es : List Entry) → sum_of (enter s es) ≡ suc (sum_of es)
unfolding enter
sum_enter s [] = refl
sum_enter s (e ∷ es) =
    by_test (lt_z s (score e))
    (λ (q : lt_z s (score e) ≡ true). rw q (omega (arith, sum_enter s es)))
    (λ (q : lt_z s (score e) ≡ false). rw q (by_test (same_score s (score e))
    (λ (r : same_score s (score e) ≡ true). rw r (omega arith))
    (λ (r : same_score s (score e) ≡ false). rw r (omega arith))))

pub sum_list : (l : List ℤ) → sum_of (entries_of l) ≡ length l
unfolding entries_of
sum_list [] = refl
sum_list (s ∷ l) = sum_enter s (entries_of l) ∙ ap suc (sum_list l)

pub sum_expand : (es : List Entry) → length (expand es) ≡ sum_of es
unfolding expand
sum_expand [] = refl
sum_expand (e ∷ es) =
    omega (arith, length-append (replicate (count e) (score e)) (expand es), length-replicate (count e) (score e), sum_expand es)

-- ---- the order
pub ordered_enter : (top s : ℤ) (es : List Entry) → valid_score s ≡ true → lt_z s top ≡ true → Ordered top es → Ordered top (enter s es)
unfolding enter
ordered_enter top s [] v h w = (v, h, omega arith, tt)
ordered_enter top s (e ∷ es) v h w =
    by_test (lt_z s (score e))
    (λ (q : lt_z s (score e) ≡ true). rw q (w.0, w.1, w.2, ordered_enter (score e) s es v q w.3))
    (λ (q : lt_z s (score e) ≡ false). rw q (by_test (same_score s (score e))
    (λ (r : same_score s (score e) ≡ true). rw r (v, h, omega arith, rw (same_true s (score e) r) w.3))
    (λ (r : same_score s (score e) ≡ false). rw r (v, h, omega arith, (w.0, else_below s (score e) q r, w.2, w.3)))))

pub ordered_list : (l : List ℤ) → AllValid l → Ordered ceiling (entries_of l)
unfolding entries_of AllValid
ordered_list [] v = tt
ordered_list (s ∷ l) v = ordered_enter ceiling s (entries_of l) v.0 (valid-low s v.0) (ordered_list l v.1)

pub valid_append : (l m : List ℤ) → AllValid l → AllValid m → AllValid (l ++ m)
unfolding AllValid
valid_append [] m v w = w
valid_append (s ∷ l) m v w = (v.0, valid_append l m v.1 w)

valid-replicate : (n : ℕ) (s : ℤ) → valid_score s ≡ true → AllValid (replicate n s)
unfolding AllValid
valid-replicate zero s v = tt
valid-replicate (suc n) s v = (v, valid-replicate n s v)

pub valid-expand : (top : ℤ) (es : List Entry) → Ordered top es → AllValid (expand es)
unfolding expand AllValid
valid-expand top [] w = tt
valid-expand top (e ∷ es) w =
    valid_append (replicate (count e) (score e)) (expand es) (valid-replicate (count e) (score e) w.0)
    (valid-expand (score e) es w.3)

-- ---- entries and lists determine each other
-- ordered entries with the counts of a list are the list's entries
pub told : (top : ℤ) (es : List Entry) (l : List ℤ) → Ordered top es → AllValid l → ((s : ℤ) → count_of s es ≡ occurrences s l) → es ≡ entries_of l
unfolding occurrences
told top es l w v h = unique top ceiling es (entries_of l) w (ordered_list l v) (λ s. h s ∙ sym (in_list (same_score s) l))

pub same_entries : (l m : List ℤ) → AllValid l → AllValid m → SameScores l m → entries_of l ≡ entries_of m
unfolding SameScores occurrences
same_entries l m v w h = told ceiling (entries_of l) m (ordered_list l v) w (λ s. in_list (same_score s) l ∙ h s)

pub entries-expand : (es : List Entry) → Ordered ceiling es → entries_of (expand es) ≡ es
unfolding occurrences
entries-expand es w = sym (told ceiling es (expand es) w (valid-expand ceiling es w) (λ s. sym (in_expand (same_score s) es)))
