-- A text and its first 769 bytes have the same sheet, with matchpoints or with percentages: 128 lines of at most 6 bytes with their newlines, and one
-- byte more. Assumes nothing.
use Prim.Native.Nat.{ℕ, zero, suc, ◌+◌, ◌-◌, ◌*◌, ◌≤◌, ◌<◌}
use native.Mathlib.Omega.{arith}
use mathlib.Core.Path.{◌≡◌, refl, sym, ◌∙◌}
use mathlib.Core.Bool.{Bool, true, false, not, ◌&&◌, ◌||◌}
use mathlib.Core.List.{List, [], ◌∷◌}
use borrow.Author.Tests.{leb-true, eqb-true, eqb-false, ltb-true, ltb-false, lt-ltb}
use lib.Dec.{ltb, leb, eqb}
use lib.IntN.{ℤ}
use lib.ListN.{length, take, drop, length-drop}
use lib.Seq.{take_all, take-take, take-nil, drop-nil, length-take-le}
use Rattle.laws.specs.Decimal.{minus, zero_digit, starts_with, is_number}
use Rattle.laws.specs.Law77.{valid_score}
use Rattle.laws.specs.Sheet.{lines_of, is_zero, is_size, unsigned, score_of, is_score, refused_line, table, tabled, sheet}
use Rattle.laws.specs.CellSheet.{cell_table, cell_sheet}
use Rattle.laws.proofs.Tests.{by_test, and_left, and_right, or_left, or_right, not_both}
use Rattle.sheet_text.specs.declared.columns.Columns.{Columns}
use Rattle.sheet_text.specs.declared.columns.Columns.TheVariants.{Matchpoints, Percentages}
use Rattle.sheet_text.specs.Columns.{sheet_as}
use Rattle.score_lines.specs.Reading.{line_length}
use Rattle.score_lines.proofs.Lines.{first-line, line-within}
use Rattle.sheet_text.proofs.Enough.{not-not}

-- ---- a score takes at most five bytes
size-short : (bytes : List ℕ) → is_size bytes ≡ true → length bytes ≤ 4
unfolding is_size
size-short bytes e =
    leb-true (length bytes) 4
    (and_left (leb (length bytes) 4) (is_number bytes) (and_right (not (starts_with zero_digit bytes)) (leb (length bytes) 4 && is_number bytes) e))

zero-short : (line : List ℕ) → is_zero line ≡ true → length line ≤ 1
unfolding is_zero
zero-short line e = omega (arith, eqb-true (length line) 1 (and_left (eqb (length line) 1) (starts_with zero_digit line) e))

unsigned-length : (line : List ℕ) → length line ≤ suc (length (unsigned line))
unsigned-length line =
    by_test (starts_with minus line)
    (λ (q : starts_with minus line ≡ true). rw q (omega (arith, length-drop 1 line)))
    (λ (q : starts_with minus line ≡ false). rw q (omega arith))

either : (a b : Bool) → (a || b) ≡ true → a ≡ false → b ≡ true
either true b e f = not_both true refl f
either false b e f = e

pub score-short : (line : List ℕ) → is_score line ≡ true → length line ≤ 5
unfolding is_score
score-short line e =
    let one = and_left (is_zero line || is_size (unsigned line)) (valid_score (score_of line)) e in
    by_test (is_zero line)
    (λ (q : is_zero line ≡ true). omega (arith, zero-short line q))
    (λ (q : is_zero line ≡ false). omega (arith, size-short (unsigned line) (either (is_zero line) (is_size (unsigned line)) one q), unsigned-length line))

-- ---- the first bytes of a text
line_kept : (s : List ℕ) (n : ℕ) → line_length s < n → line_length (take n s) ≡ line_length s
unfolding line_length
line_kept [] n h = rw (take-nil n)
line_kept (b ∷ s) zero h = absurd (omega arith)
line_kept (b ∷ s) (suc n) h =
    by_test (eqb b 10)
    (λ (q : eqb b 10 ≡ true). rw q)
    (λ (q : eqb b 10 ≡ false). let k = rw q at h in rw (q, line_kept s n (omega arith)))

line-cut : (s : List ℕ) (n : ℕ) → n ≤ line_length s → line_length (take n s) ≡ n
unfolding line_length
line-cut [] n h = let e : n ≡ 0 = omega arith in rw e
line-cut (b ∷ s) zero h = refl
line-cut (b ∷ s) (suc n) h =
    by_test (eqb b 10)
    (λ (q : eqb b 10 ≡ true). absurd (omega (arith, rw q at h)))
    (λ (q : eqb b 10 ≡ false). let k = rw q at h in rw (q, line-cut s n (omega arith)))

drop-take : (j n : ℕ) (s : List ℕ) → drop j (take n s) ≡ take (n - j) (drop j s)
drop-take zero n s = let e : n - 0 ≡ n = omega arith in rw e
drop-take (suc j) zero s = let e : 0 - suc j ≡ 0 = omega arith in rw (e, drop-nil (suc j))
drop-take (suc j) (suc n) [] = rw take-nil
drop-take (suc j) (suc n) (b ∷ s) = let e : suc n - suc j ≡ n - j = omega arith in rw e (drop-take j n s)

-- ---- line by line
-- whether a line is refused
abbrev refuses : List ℕ → ℕ → Bool
refuses line k = not (is_score line) || ltb 128 k

-- the first line that is refused, of a text that is not empty
module _ (k : ℕ) (s : List ℕ) (some : length s ≡ 0 → ⊥) where
  here : refuses (take (line_length s) s) k ≡ true → refused_line k (lines_of s) ≡ k
  unfolding refused_line
  here q = rw (first-line s some, q)

  later : refuses (take (line_length s) s) k ≡ false → refused_line k (lines_of s) ≡ refused_line (suc k) (lines_of (drop (suc (line_length s)) s))
  unfolding refused_line
  later q = rw (first-line s some, q)

  first-length : length (take (line_length s) s) ≡ line_length s
  first-length = length-take-le (line_length s) s (line-within s)

  -- a line that is taken, and that there is room for it
  goes_on : refuses (take (line_length s) s) k ≡ false → (line_length s ≤ 5) × (k ≤ 128)
  goes_on q =
      let line = take (line_length s) s in
      let score = not-not (is_score line) (or_left (not (is_score line)) (ltb 128 k) q) in
      (omega (arith, first-length, score-short line score), ltb-false 128 k (or_right (not (is_score line)) (ltb 128 k) q))

-- a text is empty, or its first line is refused, or it is taken
by_line : {A : Type 0} (k : ℕ) (s : List ℕ) → (length s ≡ 0 → A)
    → ((length s ≡ 0 → ⊥) → refuses (take (line_length s) s) k ≡ true → A)
    → ((length s ≡ 0 → ⊥) → refuses (take (line_length s) s) k ≡ false → A) → A
by_line k s none stops goes =
    by_test (eqb (length s) 0)
    (λ (z : eqb (length s) 0 ≡ true). none (eqb-true (length s) 0 z))
    (λ (z : eqb (length s) 0 ≡ false). by_test (refuses (take (line_length s) s) k) (stops (eqb-false (length s) 0 z)) (goes (eqb-false (length s) 0 z)))

-- lines that are all taken are short
taken-short : (m k : ℕ) (s : List ℕ) → 1 ≤ k → k + m ≡ 129 → refused_line k (lines_of s) ≡ 0 → length s ≤ 6 * m
taken-short zero k s one e r =
    by_line k s (λ z. omega arith)
    (λ some q. absurd (omega (arith, here k s some q)))
    (λ some q. absurd (omega (arith, (goes_on k s some q).1)))
taken-short (suc m) k s one e r =
    by_line k s (λ z. omega arith)
    (λ some q. absurd (omega (arith, here k s some q)))
    (λ some q. omega (
      arith,
      (goes_on k s some q).0,
      length-drop (suc (line_length s)) s,
      taken-short m (suc k) (drop (suc (line_length s)) s) (omega arith) (omega arith) (sym (later k s some q) ∙ r),
    ))

-- the first n bytes of a text that is longer
module _ (k n : ℕ) (s : List ℕ) (longer : n < length s) (one : 1 ≤ n) where
  cut-some : length (take n s) ≡ 0 → ⊥
  cut-some e = omega (arith, length-take-le n s (omega arith))

  some : length s ≡ 0 → ⊥
  some e = omega arith

  -- a first line that ends within them is the first line
  same_line : line_length s < n → take (line_length (take n s)) (take n s) ≡ take (line_length s) s
  same_line h = rw (line_kept s n h, take-take (line_length s) n s (omega arith))

  -- a line that is refused, and so is what is left of it
  past_128 : 128 < k → (line : List ℕ) → refuses line k ≡ true
  past_128 h line = rw (lt-ltb 128 k h) (or_true (not (is_score line)))
    where
      or_true : (b : Bool) → (b || true) ≡ true
      or_true true = refl
      or_true false = refl

  over_five : (line : List ℕ) → 5 < length line → refuses line k ≡ true
  over_five line h =
      by_test (is_score line)
      (λ (q : is_score line ≡ true). absurd (omega (arith, score-short line q)))
      (λ (q : is_score line ≡ false). rw q)

  cut-refused : (k ≤ 128 → 7 ≤ n) → refuses (take (line_length s) s) k ≡ true → refused_line k (lines_of s) ≡ refused_line k (lines_of (take n s))
  cut-refused room q =
      here k s some q ∙ sym (here k (take n s) cut-some
      (by_test (ltb 128 k)
      (λ (z : ltb 128 k ≡ true). past_128 (ltb-true 128 k z) (take (line_length (take n s)) (take n s)))
      (λ (z : ltb 128 k ≡ false).
      let seven = room (ltb-false 128 k z) in
      by_test (ltb (line_length s) n)
      (λ (y : ltb (line_length s) n ≡ true). rw (same_line (ltb-true (line_length s) n y)) q)
      (λ (y : ltb (line_length s) n ≡ false).
      over_five (take (line_length (take n s)) (take n s))
      (omega (arith, first-length k (take n s) cut-some, line-cut s n (ltb-false (line_length s) n y)))))))

  cut-taken : line_length s < n → refuses (take (line_length s) s) k ≡ false
      → refused_line (suc k) (lines_of (drop (suc (line_length s)) s)) ≡ refused_line (suc k)
      (lines_of (take (n - suc (line_length s)) (drop (suc (line_length s)) s)))
      → refused_line k (lines_of s) ≡ refused_line k (lines_of (take n s))
  cut-taken h q e =
      later k s some q ∙ e ∙ sym (later k (take n s) cut-some (rw (same_line h) q)
      ∙ rw (line_kept s n h, drop-take (suc (line_length s)) n s))

-- the first line that is refused stands in the bytes of as many lines as may be taken, and one byte more
same-refused : (m k n : ℕ) (s : List ℕ) → 1 ≤ k → k + m ≡ 129 → 6 * m < n → refused_line k (lines_of s) ≡ refused_line k (lines_of (take n s))
same-refused zero k n s one e h =
    by_test (ltb n (length s))
    (λ (y : ltb n (length s) ≡ true).
    let longer = ltb-true n (length s) y in
    by_line k s (λ z. absurd (omega arith))
    (λ some q. cut-refused k n s longer (omega arith) (λ w. absurd (omega arith)) q)
    (λ some q. absurd (omega (arith, (goes_on k s some q).1))))
    (λ (y : ltb n (length s) ≡ false). rw (take_all n s (ltb-false n (length s) y)))
same-refused (suc m) k n s one e h =
    by_test (ltb n (length s))
    (λ (y : ltb n (length s) ≡ true).
    let longer = ltb-true n (length s) y in
    by_line k s (λ z. absurd (omega arith))
    (λ some q. cut-refused k n s longer (omega arith) (λ w. omega arith) q)
    (λ some q.
    let short = (goes_on k s some q).0 in
    cut-taken k n s longer (omega arith) (omega arith) q
    (same-refused m (suc k) (n - suc (line_length s)) (drop (suc (line_length s)) s) (omega arith) (omega arith) (omega arith))))
    (λ (y : ltb n (length s) ≡ false). rw (take_all n s (ltb-false n (length s) y)))

-- ---- the theorem
first-tabled : (table_of : List ℤ → List ℕ) (bytes : List ℕ) → tabled table_of (lines_of bytes) ≡ tabled table_of (lines_of (take 769 bytes))
unfolding tabled
first-tabled table_of bytes =
    let same = same-refused 128 1 769 bytes (omega arith) (omega arith) (omega arith) in
    by_test (eqb (refused_line 1 (lines_of bytes)) 0)
    (λ (q : eqb (refused_line 1 (lines_of bytes)) 0 ≡ true).
    rw (take_all 769 bytes (omega (arith, taken-short 128 1 bytes (omega arith) (omega arith) (eqb-true (refused_line 1 (lines_of bytes)) 0 q)))))
    (λ (q : eqb (refused_line 1 (lines_of bytes)) 0 ≡ false). rw (← same, q))

pub first_bytes : (k : Columns) (bytes : List ℕ) → sheet_as k bytes ≡ sheet_as k (take 769 bytes)
unfolding sheet cell_sheet
first_bytes Matchpoints bytes = first-tabled table bytes
first_bytes Percentages bytes = first-tabled cell_table bytes
