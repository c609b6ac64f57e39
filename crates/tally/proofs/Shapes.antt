-- The tally of a board and a list, place by place. Assumes nothing.
use Rattle.std.specs.Prelude.{if◌then◌else◌}
use Prim.Native.Nat.{ℕ, zero, suc, ◌≤◌, ◌<◌, ◌+◌}
use native.Mathlib.Omega.{arith}
use native.Mathlib.Numerals.{add-one}
use mathlib.Core.Path.{◌≡◌, refl, ap, ◌∙◌}
use mathlib.Core.Bool.{true, false}
use mathlib.Core.List.{List, [], ◌∷◌, map}
use lib.IntN.{ℤ, pos}
use lib.ListN.{length, get_or, length-map}
use lib.Signed.{lt_z}
use Rattle.laws.specs.Law77.{valid_score}
use Rattle.laws.specs.Law78.{same_score, occurrences}
use Rattle.laws.specs.Padded.{padded}
use Rattle.laws.proofs.Tests.{by_test}
use Rattle.laws.proofs.Padded.{length-padded}
use Rattle.tally.specs.declared.Entry.{Entry}
use Rattle.tally.specs.Entries.{score, count, no_entry, entries_of}
use Rattle.tally.specs.Tallies.{tally_with, tally_for, ceiling}
use Rattle.tally.proofs.Ordered.{count_of, Ordered}
use Rattle.tally.proofs.Lists.{in_list, sum_list, ordered_list}
use Rattle.tally.proofs.Formed.{length_sum}
use Rattle.tally.proofs.OfLists.{Sound}
use Rattle.tally.specs.Shape.{count_at, count_in, Shape}

-- ---- padded lists, by place
module _ {A : Type 0} (z : A) where
  pub past : (k i : ℕ) (l : List A) → length l ≤ i → get_or (padded z k l) i z ≡ z
  unfolding padded
  past zero i l h = refl
  past (suc k) zero [] h = refl
  past (suc k) (suc i) [] h = past k i [] (omega arith)
  past (suc k) zero (x ∷ l) h = absurd (omega arith)
  past (suc k) (suc i) (x ∷ l) h = past k i l (omega arith)

  at : (f : Entry → A) (k i : ℕ) (es : List Entry) → i < length es → length es ≤ k → get_or (padded z k (map f es)) i z ≡ f (get_or es i no_entry)
  unfolding padded
  at f k i [] h r = absurd (omega arith)
  at f zero i (e ∷ es) h r = absurd (omega arith)
  at f (suc k) zero (e ∷ es) h r = refl
  at f (suc k) (suc i) (e ∷ es) h r = at f k i es (omega arith) (omega arith)

-- ---- ordered entries, by place
valid_at : (top : ℤ) (i : ℕ) (es : List Entry) → Ordered top es → i < length es → valid_score (score (get_or es i no_entry)) ≡ true
valid_at top i [] w h = absurd (omega arith)
valid_at top zero (e ∷ es) w h = w.0
valid_at top (suc i) (e ∷ es) w h = valid_at (score e) i es w.3 (omega arith)

counted_at_lem : (top : ℤ) (i : ℕ) (es : List Entry) → Ordered top es → i < length es → 1 ≤ count (get_or es i no_entry)
counted_at_lem top i [] w h = absurd (omega arith)
counted_at_lem top zero (e ∷ es) w h = w.2
counted_at_lem top (suc i) (e ∷ es) w h = counted_at_lem (score e) i es w.3 (omega arith)

falling_at : (top : ℤ) (i : ℕ) (es : List Entry) → Ordered top es → suc i < length es → lt_z (score (get_or es (suc i) no_entry)) (score (get_or es i no_entry)) ≡ true
falling_at top i [] w h = absurd (omega arith)
falling_at top zero (e ∷ []) w h = absurd (omega arith)
falling_at top zero (e ∷ f ∷ es) w h = w.3.1
falling_at top (suc i) (e ∷ es) w h = falling_at (score e) i es w.3 (omega arith)

-- ---- results of a score, by place
count_zeros : (s : ℤ) (k : ℕ) → count_at s (padded (pos 0) k []) (padded 0 k []) ≡ 0
unfolding count_at padded
count_zeros s zero = refl
count_zeros s (suc k) =
    by_test (same_score s (pos 0))
    (λ (q : same_score s (pos 0) ≡ true). rw q (omega (arith, count_zeros s k)))
    (λ (q : same_score s (pos 0) ≡ false). rw q (omega (arith, count_zeros s k)))

count-places : (s : ℤ) (k : ℕ) (es : List Entry) → length es ≤ k → count_at s (padded (pos 0) k (map score es)) (padded 0 k (map count es)) ≡ count_of s es
unfolding count_at padded
count-places s k [] h = count_zeros s k
count-places s zero (e ∷ es) h = absurd (omega arith)
count-places s (suc k) (e ∷ es) h = ap (λ (n : ℕ). (if same_score s (score e) then count e else 0) + n) (count-places s k es (omega arith))

-- ---- the tally of a board and a list
module _ (b : ℕ) (d : List ℕ) (l : List ℤ) (w : Sound b d l) where
  ordered : Ordered ceiling (entries_of l)
  ordered = ordered_list l w.valid

  few : length (entries_of l) ≤ 128
  few = omega (arith, length_sum ceiling (entries_of l) ordered, sum_list l, w.room)

  pub count-tally : (s : ℤ) → count_in (tally_for b d l) s ≡ occurrences s l
  unfolding tally_for tally_with occurrences
  count-tally s = count-places s 128 (entries_of l) few ∙ in_list (same_score s) l

  pub shape-tally : Shape (tally_for b d l) b d
  unfolding tally_for tally_with
  shape-tally =
      record {
        board = refl;
        deal = refl;
        scores = length-padded (pos 0) 128 (map score (entries_of l));
        counts = length-padded 0 128 (map count (entries_of l));
        used = length (entries_of l);
        within = few;
        valid = λ i h. rw (at (pos 0) score 128 i (entries_of l) h few) (valid_at ceiling i (entries_of l) ordered h);
        falling = λ i h. falls i (rw (add-one i) at h);
        counted = λ i h. rw (at 0 count 128 i (entries_of l) h few) (counted_at_lem ceiling i (entries_of l) ordered h);
        unused =
            λ i h. (
              past (pos 0) 128 i (map score (entries_of l)) (rw (length-map (entries_of l) score) h),
              past 0 128 i (map count (entries_of l))
                  (rw (length-map (entries_of l) count) h),
            );
      }
    where
      falls : (i : ℕ) → suc i < length (entries_of l)
          → lt_z (get_or (padded (pos 0) 128 (map score (entries_of l))) (i + 1) (pos 0)) (get_or (padded (pos 0) 128 (map score (entries_of l))) i (pos 0)) ≡ true
      falls i h =
          rw (add-one i, at (pos 0) score 128 (suc i) (entries_of l) h few, at (pos 0) score 128 i (entries_of l) (omega arith) few)
          (falling_at ceiling i (entries_of l) ordered h)
