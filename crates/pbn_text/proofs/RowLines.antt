-- A line of calls or of cards taken into what was read. Assumes nothing.
use Rattle.std.specs.Prelude.{if◌then◌else◌}
use Prim.Native.Nat.{ℕ, zero, suc, ◌-◌, ◌≤◌, ◌<◌}
use native.Mathlib.Omega.{arith}
use mathlib.Core.Path.{◌≡◌, refl, sym, ap, ◌∙◌}
use mathlib.Core.Bool.{Bool, true, false}
use mathlib.Core.List.{List, ◌++◌}
use borrow.Author.Tests.{eq-eqb, ne_eqb, lt-ltb, le-ltb, ltb-true, ltb-false}
use lib.Dec.{ltb, eqb}
use lib.ListN.{length, take, replicate}
use lib.Seq.{take_at}
use Rattle.laws.specs.PbnText.{columns, Game}
use Rattle.laws.specs.PbnReading.{Read, misses, reads, on_read, Stage, calls, calls_over, cards}
use Rattle.laws.specs.PbnReading.{with_calls, with_play, with_row, goes, calls_in, cards_in, line_in}
use Rattle.laws.proofs.Tests.{by_test}
use Rattle.laws.proofs.PbnWords.{reads_same, row_sound}
use Rattle.pbn_words.specs.declared.rows.Row.{Row}
use Rattle.pbn_text.specs.declared.numbers.Numbers.{Numbers}
use Rattle.pbn_text.specs.declared.state.Text.{Text}
use Rattle.pbn_words.specs.WordNumbers.{word_of, words}
use Rattle.pbn_words.specs.RowNumbers.{row_on, row_by}
use Rattle.pbn_text.specs.Kept.{kept_of}
use Rattle.pbn_text.specs.TextOf.{seat_of, listed_of, text_of, kept_after}
use Rattle.pbn_text.specs.declared.state.Stage.TheVariants.{Calls, CallsOver, Cards}
use Rattle.pbn_text.proofs.Stepping.{at}
use Rattle.std.specs.Prelude.{Option, Some, None}
use Rattle.std.proofs.lemmas.Option.{none-some, same_Some}

-- ---- what a row says of the line
record Says (cards : Bool) (line : List ℕ) (row : Row) (l : List ℕ) : Type 0 where
  read : row_on cards line ≡ reads l
  some : 1 ≤ length l
  few : length l ≤ 4
  as_many : row.count ≡ length l
  are : take row.count row.numbers ≡ l

module _ (cards : Bool) (line : List ℕ) {r : Option Row} (is : r ≡ row_by (row_on cards line)) where
  -- no row: no words are read, or more than four
  no_row_lem : r ≡ None → (l : List ℕ) → row_on cards line ≡ reads l → 4 < length l
  unfolding row_by
  no_row_lem z l q =
      by_test (ltb 4 (length l))
      (λ (t : ltb 4 (length l) ≡ true). ltb-true 4 (length l) t)
      (λ (t : ltb 4 (length l) ≡ false). absurd (none-some _ (sym z ∙ rw (q, t) at is)))

  -- a row of as many as there are
  row_says : (row : Row) → r ≡ Some row → (l : List ℕ) × Says cards line row l
  unfolding row_by
  row_says row z = go (row_on cards line) refl is
    where
      go : (o : Read (List ℕ)) → row_on cards line ≡ o → r ≡ row_by o → (l : List ℕ) × Says cards line row l
      go misses q e = absurd (none-some row (sym e ∙ z))
      go (reads l) q e =
          by_test (ltb 4 (length l))
          (λ (t : ltb 4 (length l) ≡ true). absurd (none-some row (sym (rw t at e) ∙ z)))
          (λ (t : ltb 4 (length l) ≡ false).
          let same : row ≡ record { count = length l; numbers = l ++ replicate (4 - length l) 0 } = same_Some _ _ (sym z ∙ rw t at e) in (
            l,
            record {
              read = q;
              some = (row_sound (word_of cards) (words cards) line l q).1;
              few = ltb-false 4 (length l) t;
              as_many = ap (λ (r : Row). r.count) same;
              are = ap (λ (r : Row). take r.count r.numbers) same ∙ take_at l (replicate (4 - length l) 0) (length l) refl;
            },
          ))

  pub at_most_four : (row : Row) → r ≡ Some row → row.count ≤ 4
  at_most_four row z = let s = row_says row z in omega (arith, s.1.few, s.1.as_many)

-- ---- a line of calls
module _ (line : List ℕ) (x : Game) {r : Option Row} (is : r ≡ row_by (row_on false line)) where
  pub no_calls_lem : r ≡ None → None ≡ kept_after (calls_in x line)
  unfolding calls_in
  no_calls_lem z = go (row_on false line) refl
    where
      go : (o : Read (List ℕ)) → row_on false line ≡ o
          → None
          ≡ kept_after (on_read o (λ row. if ltb 4 (length row) then misses else goes (if eqb (length row) 4 then calls else calls_over) (with_calls x row)))
      go misses q = refl
      go (reads l) q = rw (lt-ltb 4 (length l) (no_row_lem false line is z l q))

  module _ (t : Text) (stage : Stage) (e : t ≡ text_of (at stage x)) (row : Row) (z : r ≡ Some row) (k : Numbers)
      (kept : (l : List ℕ) → t.calls ≡ kept_of l → k ≡ kept_of (l ++ take row.count row.numbers)) where
    calls_are_in : (l : List ℕ) → Says false line row l → calls_in x line ≡ goes (if eqb (length l) 4 then calls else calls_over) (with_calls x l)
    unfolding calls_in
    calls_are_in l s = rw (s.read, le-ltb 4 (length l) s.few)

    kept-calls : (l : List ℕ) → Says false line row l → k ≡ kept_of (x.calls ++ l)
    unfolding text_of
    kept-calls l s = kept x.calls (ap (λ (t : Text). t.calls) e) ∙ ap (λ m. kept_of (x.calls ++ m)) s.are

    pub four-calls : row.count ≡ 4
        → ◌≡◌ {A = Option Text}
        (Some (record { stage = Calls; board = t.board; caller = t.caller; seat = t.seat; holders = t.holders; calls = k; cards = t.cards }))
        (kept_after (calls_in x line))
    unfolding text_of
    four-calls four =
        let s = row_says false line is row z in
        let n : length s.0 ≡ 4 = sym s.1.as_many ∙ four in
        rw (calls_are_in s.0 s.1, eq-eqb (length s.0) 4 n, kept-calls s.0 s.1, e)

    pub fewer_calls : (row.count ≡ 4 → ⊥)
        → ◌≡◌ {A = Option Text}
        (Some (record { stage = CallsOver; board = t.board; caller = t.caller; seat = t.seat; holders = t.holders; calls = k; cards = t.cards }))
        (kept_after (calls_in x line))
    unfolding text_of
    fewer_calls other =
        let s = row_says false line is row z in
        let n : length s.0 ≡ 4 → ⊥ = λ q. other (s.1.as_many ∙ q) in
        rw (calls_are_in s.0 s.1, ne_eqb (length s.0) 4 n, kept-calls s.0 s.1, e)

-- ---- a line of cards
pub no_line_left : (line : List ℕ) (x : Game) (n : ℕ) → n ≡ 0 → None ≡ kept_after (line_in (cards n) x line)
unfolding line_in
no_line_left line x zero z = refl
no_line_left line x (suc n) z = absurd (omega arith)

module _ (line : List ℕ) (x : Game) {r : Option Row} (is : r ≡ row_by (row_on true line)) where
  not_four_in : (n : ℕ) → ((l : List ℕ) → row_on true line ≡ reads l → length l ≡ 4 → ⊥) → None ≡ kept_after (line_in (cards n) x line)
  unfolding line_in cards_in
  not_four_in zero other = refl
  not_four_in (suc n) other = go (row_on true line) refl
    where
      go : (o : Read (List ℕ)) → row_on true line ≡ o
          → None ≡ kept_after (on_read o (λ row. if eqb (length row) 4 then goes (cards n) (with_play x (with_row x.play row)) else misses))
      go misses q = refl
      go (reads l) q = rw (ne_eqb (length l) 4 (other l q))

  pub no_cards_lem : (n : ℕ) → r ≡ None → None ≡ kept_after (line_in (cards n) x line)
  no_cards_lem n z = not_four_in n (λ l q four. let over = no_row_lem true line is z l q in omega arith)

  module _ (row : Row) (z : r ≡ Some row) where
    pub fewer_cards : (n : ℕ) → (row.count ≡ 4 → ⊥) → None ≡ kept_after (line_in (cards n) x line)
    fewer_cards n other =
        let s = row_says true line is row z in
        not_four_in n (λ l q four. let same : s.0 ≡ l = reads_same (sym s.1.read ∙ q) in other (s.1.as_many ∙ ap length same ∙ four))

    pub with_cards : (t : Text) (n seat : ℕ) (l : List ℕ) → t ≡ text_of (at (cards n) x) → x.play ≡ columns seat l → (n ≡ 0 → ⊥)
        → (k : Numbers) → ((l : List ℕ) → t.cards ≡ kept_of l → k ≡ kept_of (l ++ take row.count row.numbers)) → row.count ≡ 4
        → ◌≡◌ {A = Option Text}
        (Some (record { stage = Cards (n - 1); board = t.board; caller = t.caller; seat = t.seat; holders = t.holders; calls = t.calls; cards = k }))
        (kept_after (line_in (cards n) x line))
    unfolding line_in cards_in text_of with_row
    with_cards t zero seat l e lists some k kept four = absurd (some refl)
    with_cards t (suc n) seat l e lists some k kept four =
        let s = row_says true line is row z in
        let m = take row.count row.numbers in
        let many : length s.0 ≡ 4 = sym s.1.as_many ∙ four in
        let before : t.cards ≡ kept_of l = ap (λ (t : Text). t.cards) e ∙ ap (λ p. kept_of (listed_of p)) lists in
        let after : k ≡ kept_of (l ++ s.0) = kept l before ∙ ap (λ m. kept_of (l ++ m)) s.1.are in
        let at_seat : t.seat ≡ Some seat = ap (λ (t : Text). t.seat) e ∙ ap seat_of lists in
        let left : suc n - 1 ≡ n = omega arith in
        rw (s.1.read, eq-eqb (length s.0) 4 many, lists, left, after, at_seat, e)
