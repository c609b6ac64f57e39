-- How long the parts of a sheet are, and how much room is enough for every sheet. Assumes nothing.
use Prim.Native.Nat.{ℕ, suc, ◌+◌, ◌-◌, ◌*◌, ◌/◌, ◌≤◌}
use native.Mathlib.Nat.{mul-suc, mul-le-mul_right, div-mul-le_self}
use native.Mathlib.Omega.{arith}
use mathlib.Core.Path.{◌≡◌, refl, sym}
use mathlib.Core.Bool.{Bool, true, false, not, ◌||◌}
use mathlib.Core.List.{List, [], ◌∷◌, map}
use borrow.Author.Tests.{ltb-false, leb-true, leb-false, eqb-true, eqb-false}
use lib.Dec.{ltb, leb, eqb}
use lib.IntN.{ℤ, pos, negsuc}
use lib.ListN.{length, length-append, length-map}
use lib.Signed.{lt_z}
use Rattle.laws.specs.Decimal.{decimal, signed_decimal}
use Rattle.laws.specs.Law77.{valid_score}
use Rattle.laws.specs.Law78.{same_score, occurrences, comparison, comparisons, others, ns_matchpoints, ew_matchpoints}
use Rattle.laws.specs.Sheet.{fields, header, row, rows, table, refusal, insert, distinct}
use Rattle.laws.specs.Sheet.{lines_of, score_of, is_score, is_zero, is_size, unsigned, refused_line, tabled, sheet}
use Rattle.laws.specs.CellSheet.{hundredths, two_decimals, share, cell_header, cell_row, cell_table, cell_sheet}
use Rattle.laws.specs.Percentages.{most_matchpoints}
use Rattle.laws.specs.Choice.{how_many}
use Rattle.laws.specs.Tally.{AllValid}
use Rattle.laws.proofs.Comparisons.{below_equal, both_most}
use Rattle.laws.proofs.Counts.{many-le}
use Rattle.laws.proofs.Scores.{is_self}
use Rattle.laws.proofs.Tests.{by_test, and_right, or_left, or_right}
use Rattle.score.proofs.Validity.{valid-size}
use Rattle.text.proofs.RefusalLengths.{refusal-length}
use Rattle.sheet_text.specs.declared.columns.Columns.{Columns}
use Rattle.sheet_text.specs.declared.columns.Columns.TheVariants.{Matchpoints, Percentages}
use Rattle.sheet_text.specs.Columns.{table_as, sheet_as, room_as}
use Rattle.text.proofs.Printed.{length_3, length_4}

-- ---- lengths by parts
pub fields-length : (a b c d : List ℕ) → length (fields a b c d) ≡ length a + length b + length c + length d + 4
fields-length a b c d = simp length-append (omega arith)

-- ---- a row
comparison-low : (s r : ℤ) → comparison s r ≤ 2
unfolding comparison
comparison-low s r =
    by_test (lt_z r s)
    (λ (q : lt_z r s ≡ true). rw q (omega arith))
    (λ (q : lt_z r s ≡ false). rw q (by_test (same_score s r)
    (λ (p : same_score s r ≡ true). rw p (omega arith))
    (λ (p : same_score s r ≡ false). rw p (omega arith))))

comparisons-low : (s : ℤ) (l : List ℤ) → comparisons s l ≤ 2 * length l
unfolding comparisons
comparisons-low s [] = omega arith
comparisons-low s (r ∷ l) = omega (arith, comparison-low s r, comparisons-low s l)

others_fewer : (s : ℤ) (l : List ℤ) → length (others s l) ≤ length l
unfolding others
others_fewer s [] = omega arith
others_fewer s (r ∷ l) =
    by_test (same_score s r)
    (λ (q : same_score s r ≡ true). rw q (omega arith))
    (λ (q : same_score s r ≡ false). rw q (omega (arith, others_fewer s l)))

score-length : (s : ℤ) → valid_score s ≡ true → length (signed_decimal s) ≤ 5
unfolding signed_decimal
score-length (pos n) v = omega (arith, length_4 n (omega (arith, valid-size (pos n) v)))
score-length (negsuc n) v = omega (arith, length_4 (suc n) (omega (arith, valid-size (negsuc n) v)))

row-length : (xs : List ℤ) (s : ℤ) → length xs ≤ 128 → valid_score s ≡ true → length (row xs s) ≤ 18
unfolding row occurrences ns_matchpoints ew_matchpoints
row-length xs s h v =
    let n : ns_matchpoints xs s ≤ 256 = omega (arith, comparisons-low s (others s xs), others_fewer s xs) in
    omega (
      arith,
      fields-length (signed_decimal s) (decimal (occurrences s xs)) (decimal (ns_matchpoints xs s)) (decimal (ew_matchpoints xs s)),
      score-length s v,
      length_3 (occurrences s xs) (omega (arith, many-le (same_score s) xs)),
      length_3 (ns_matchpoints xs s) (omega arith),
      length_3 (ew_matchpoints xs s) (omega arith),
    )

-- a percentage is at most 100.00
hundredths-most : (points most : ℕ) → points ≤ most → 1 ≤ most → hundredths points most ≤ 10000
unfolding hundredths
hundredths-most points most h one =
    let n = 20000 * points + most in
    let q = n / (2 * most) in
    by_test (leb q 10000)
    (λ (e : leb q 10000 ≡ true). leb-true q 10000 e)
    (λ (e : leb q 10000 ≡ false).
    absurd (omega (arith, mul-le-mul_right (2 * most) (leb-false q 10000 e), div-mul-le_self n (2 * most))))

share-length : (xs : List ℤ) (points : ℕ) → 1 ≤ length xs → points ≤ most_matchpoints xs → length (share xs points) ≤ 6
unfolding share two_decimals most_matchpoints
share-length xs points some h =
    let most = 2 * (length xs - 1) in
    let n = hundredths points most in
    by_test (eqb (length xs) 1)
    (λ (q : eqb (length xs) 1 ≡ true). rw q (omega arith))
    (λ (q : eqb (length xs) 1 ≡ false).
    let more = eqb-false (length xs) 1 q in
    let low = hundredths-most points most h (omega arith) in
    rw q (simp length-append (omega (arith, length_3 (n / 100) (omega arith)))))

cell-row-length : (xs : List ℤ) (s : ℤ) → length xs ≤ 128 → 1 ≤ occurrences s xs → valid_score s ≡ true → length (cell_row xs s) ≤ 24
unfolding cell_row
cell-row-length xs s h o v =
    omega (
      arith,
      fields-length (signed_decimal s) (decimal (occurrences s xs)) (share xs (ns_matchpoints xs s)) (share xs (ew_matchpoints xs s)),
      score-length s v,
      length_3 (occurrences s xs) (omega (arith, below_equal s xs)),
      share-length xs (ns_matchpoints xs s) (omega (arith, below_equal s xs)) (omega (arith, both_most xs s o)),
      share-length xs (ew_matchpoints xs s) (omega (arith, below_equal s xs)) (omega (arith, both_most xs s o)),
    )

-- each of some scores is valid and stands in the list
abbrev AllIn : List ℤ → List ℤ → Type 0
AllIn xs [] = Unit {0}
AllIn xs (s ∷ ss) = ((1 ≤ occurrences s xs) × (valid_score s ≡ true)) × AllIn xs ss

-- the rows of valid scores that stand in the list, each at most so long
rows-length : (row_of : ℤ → List ℕ) (width : ℕ) (xs ss : List ℤ) → AllIn xs ss
    → ((s : ℤ) → 1 ≤ occurrences s xs → valid_score s ≡ true → length (row_of s) ≤ width)
    → length (rows row_of ss) ≤ width * length ss
unfolding rows
rows-length row_of width xs [] v f = omega arith
rows-length row_of width xs (s ∷ ss) v f =
    omega (arith, length-append (row_of s) (rows row_of ss), f s v.0.0 v.0.1, rows-length row_of width xs ss v.1 f, mul-suc width (length ss))

-- ---- the distinct scores of a list
insert_in : (xs : List ℤ) (s : ℤ) (l : List ℤ) → 1 ≤ occurrences s xs → valid_score s ≡ true → AllIn xs l → AllIn xs (insert s l)
unfolding insert
insert_in xs s [] o v w = ((o, v), tt)
insert_in xs s (x ∷ l) o v w =
    by_test (lt_z s x)
    (λ (q : lt_z s x ≡ true). rw q (w.0, insert_in xs s l o v w.1))
    (λ (q : lt_z s x ≡ false). rw q (by_test (same_score s x)
    (λ (p : same_score s x ≡ true). rw p ((o, v), w.1))
    (λ (p : same_score s x ≡ false). rw p ((o, v), w))))

more_in : (x : ℤ) (xs ss : List ℤ) → AllIn xs ss → AllIn (x ∷ xs) ss
unfolding occurrences how_many
more_in x xs [] w = tt
more_in x xs (s ∷ ss) w = ((omega (arith, w.0.0), w.0.1), more_in x xs ss w.1)

distinct_in : (l : List ℤ) → AllValid l → AllIn l (distinct l)
unfolding distinct AllValid occurrences how_many
distinct_in [] v = tt
distinct_in (s ∷ l) v = insert_in (s ∷ l) s (distinct l) (rw (is_self s) (omega arith)) v.0 (more_in s l (distinct l) (distinct_in l v.1))

insert-length : (s : ℤ) (l : List ℤ) → length (insert s l) ≤ suc (length l)
unfolding insert
insert-length s [] = omega arith
insert-length s (x ∷ l) =
    by_test (lt_z s x)
    (λ (q : lt_z s x ≡ true). rw q (omega (arith, insert-length s l)))
    (λ (q : lt_z s x ≡ false). rw q (by_test (same_score s x)
    (λ (p : same_score s x ≡ true). rw p (omega arith))
    (λ (p : same_score s x ≡ false). rw p (omega arith))))

distinct-length : (l : List ℤ) → length (distinct l) ≤ length l
unfolding distinct
distinct-length [] = omega arith
distinct-length (s ∷ l) = omega (arith, insert-length s (distinct l), distinct-length l)

pub table-length : (k : Columns) (xs : List ℤ) → length xs ≤ 128 → AllValid xs → length (table_as k xs) ≤ room_as k
unfolding table header cell_table cell_header
table-length Matchpoints xs h v =
    let ss = distinct xs in
    omega (arith, length-append header (rows (row xs) ss), rows-length (row xs) 18 xs ss (distinct_in xs v) (λ s o w. row-length xs s h w), distinct-length xs)
table-length Percentages xs h v =
    let ss = distinct xs in
    omega (
      arith,
      length-append cell_header (rows (cell_row xs) ss),
      rows-length (cell_row xs) 24 xs ss (distinct_in xs v) (λ s o w. cell-row-length xs s h o w),
      distinct-length xs,
    )

-- ---- lines that are all taken, or one that is refused
pub record Taken (k : ℕ) (lines : List (List ℕ)) : Type 0 where
  pub few : k + length lines ≤ 129
  pub valid : AllValid (map score_of lines)

score-valid : (line : List ℕ) → is_score line ≡ true → valid_score (score_of line) ≡ true
unfolding is_score
score-valid line e = and_right (is_zero line || is_size (unsigned line)) (valid_score (score_of line)) e

pub not-not : (b : Bool) → not b ≡ false → b ≡ true
not-not true e = refl
not-not false e = sym e

pub all-taken : (k : ℕ) (lines : List (List ℕ)) → 1 ≤ k → k ≤ 129 → refused_line k lines ≡ 0 → Taken k lines
unfolding refused_line AllValid
all-taken k [] one h e = record { few = omega arith; valid = tt }
all-taken k (line ∷ lines) one h e =
    by_test (not (is_score line) || ltb 128 k)
    (λ (q : (not (is_score line) || ltb 128 k) ≡ true). absurd (omega (arith, rw q at e)))
    (λ (q : (not (is_score line) || ltb 128 k) ≡ false).
    let more = ltb-false 128 k (or_right (not (is_score line)) (ltb 128 k) q) in
    let rest = all-taken (suc k) lines (omega arith) (omega arith) (rw q at e) in
    record {
      few = omega arith;
      valid = (score-valid line (not-not (is_score line) (or_left (not (is_score line)) (ltb 128 k) q)), rest.valid);
    })

pub refused-low : (k : ℕ) (lines : List (List ℕ)) → k ≤ 129 → refused_line k lines ≤ 129
unfolding refused_line
refused-low k [] h = omega arith
refused-low k (line ∷ lines) h =
    by_test (not (is_score line) || ltb 128 k)
    (λ (q : (not (is_score line) || ltb 128 k) ≡ true). rw q h)
    (λ (q : (not (is_score line) || ltb 128 k) ≡ false).
    let more = ltb-false 128 k (or_right (not (is_score line)) (ltb 128 k) q) in
    rw q (refused-low (suc k) lines (omega arith)))

pub refusal-short : (k : ℕ) → k ≤ 129 → length (refusal k) ≤ 17
refusal-short k h = omega (arith, refusal-length k, length_3 k (omega arith))

-- ---- the room that is always enough
tabled-length : (table_of : List ℤ → List ℕ) (room : ℕ) (bytes : List ℕ) → 17 ≤ room
    → ((xs : List ℤ) → length xs ≤ 128 → AllValid xs → length (table_of xs) ≤ room) → length (tabled table_of (lines_of bytes)) ≤ room
unfolding tabled
tabled-length table_of room bytes least short =
    let lines = lines_of bytes in
    by_test (eqb (refused_line 1 lines) 0)
    (λ (q : eqb (refused_line 1 lines) 0 ≡ true).
    let t = all-taken 1 lines (omega arith) (omega arith) (eqb-true (refused_line 1 lines) 0 q) in
    rw q (short (map score_of lines) (rw length-map (omega (arith, t.few))) t.valid))
    (λ (q : eqb (refused_line 1 lines) 0 ≡ false).
    rw q (omega (arith, refusal-short (refused_line 1 lines) (refused-low 1 lines (omega arith)))))

-- a refusal needs less
pub least-room : (k : Columns) → 17 ≤ room_as k
least-room Matchpoints = omega arith
least-room Percentages = omega arith

pub enough : (k : Columns) (bytes : List ℕ) → length (sheet_as k bytes) ≤ room_as k
unfolding sheet cell_sheet
enough Matchpoints bytes = tabled-length table 2331 bytes (least-room Matchpoints) (table-length Matchpoints)
enough Percentages bytes = tabled-length cell_table 3097 bytes (least-room Percentages) (table-length Percentages)
