-- The loop that prints a tally's table, row by row. Assumes nothing.
use Prim.Native.Nat.{ℕ, suc, ◌+◌, ◌-◌, ◌*◌, ◌≤◌, ◌<◌}
use native.Mathlib.Numerals.{add-one}
use native.Mathlib.Omega.{arith}
use mathlib.Core.Path.{◌≡◌, refl, sym, ap, ◌∙◌}
use mathlib.Core.Bool.{true, false}
use mathlib.Core.List.{List, [], ◌∷◌, ◌++◌, map, append_assoc, append-nil}
use borrow.Author.Tests.{eqb-true, eqb-false, eq-eqb, ne_eqb}
use lib.Dec.{eqb}
use lib.IntN.{ℤ, pos}
use lib.ListN.{length, get_or}
use mir.Syntax.{w16}
use mir.Val.{to_z, of_z}
use mir.Facts.{to_z-of_z}
use Rattle.laws.specs.Refusals.{refused_at, given}
use Rattle.laws.specs.Tally.{Result, refusal, given_refusal, asked}
use Rattle.laws.specs.Law77.{valid_score}
use Rattle.laws.specs.Law78.{same_score, occurrences, ns_matchpoints, ew_matchpoints, matchpoints}
use Rattle.laws.specs.CellSheet.{share, cell_row, cell_table}
use Rattle.laws.specs.Percentages.{most_matchpoints}
use Rattle.laws.specs.Sheet.{row, rows, table}
use Rattle.laws.proofs.Comparisons.{below_equal, both_most}
use Rattle.laws.proofs.TallyRules.{scores_on, given_on_lem}
use Rattle.laws.proofs.Tests.{by_test}
use Rattle.tally.specs.declared.Tally.{Tally}
use Rattle.std.specs.Prelude as Std
use Rattle.laws.specs.declared.Refused.{Refused}
use Rattle.laws.specs.Refused.{number}
use Rattle.matchpoints.specs.declared.points.BothSides.{BothSides}
use Rattle.tally.specs.Entries.{score, entry}
use Rattle.tally.specs.Points.{matchpoints_of}
use Rattle.matchpoints.specs.Points.{points_answer}
use Rattle.tally.specs.Tallies.{entries_in, scores_in, results_in, well_formed, ceiling}
use Rattle.tally.proofs.Lists.{in_expand}
use Rattle.matchpoints.proofs.Told.{same-ns, same-ew}
use Rattle.tally.proofs.Dealing.{deal_carried}
use Rattle.tally.proofs.Formed.{formed, carried, entries-scores, room-scores}
use Rattle.tally.proofs.Places.{entries_at, entries-used, entries-unused, entries_end}
use Rattle.score_lines.proofs.Saying.{valid-fits}
use Rattle.sheet_text.specs.declared.columns.Columns.{Columns}
use Rattle.sheet_text.specs.declared.columns.Columns.TheVariants.{Matchpoints as ByPoints, Percentages as ByPercentages}
use Rattle.sheet_text.specs.Columns.{share_text, row_text, header_as, row_as, table_as}
use Rattle.text.specs.Putting.{Put}
use Rattle.text.proofs.Puts.{then, put_next}
use Rattle.tally.proofs.Tables.{distinct-entries, Suffix, entry-valid, entry-count, entry-some, suffix_next}

-- ---- a row by its numbers
-- there are no matchpoints to be had exactly where there is one result
none-alone : (l : List ℤ) (s : ℤ) → 1 ≤ occurrences s l → eqb (most_matchpoints l) 0 ≡ eqb (length l) 1
unfolding most_matchpoints
none-alone l s h =
    by_test (eqb (length l) 1)
    (λ (q : eqb (length l) 1 ≡ true). let n = eqb-true (length l) 1 q in rw (q, eq-eqb (2 * (length l - 1)) 0 (omega arith)))
    (λ (q : eqb (length l) 1 ≡ false).
    let n = eqb-false (length l) 1 q in
    rw (q, ne_eqb (2 * (length l - 1)) 0 (λ e. n (omega (arith, below_equal s l)))))

share-is : (l : List ℤ) (s : ℤ) (points other : ℕ) → 1 ≤ occurrences s l → points + other ≡ most_matchpoints l
    → share l points ≡ share_text points (points + other)
unfolding share share_text
share-is l s points other h e = rw (e, none-alone l s h)

pub row-numbers : (k : Columns) (l : List ℤ) (s : ℤ) → 1 ≤ occurrences s l
    → row_as k l s ≡ row_text k s (occurrences s l) (ns_matchpoints l s) (ew_matchpoints l s)
unfolding row cell_row
row-numbers ByPoints l s h = refl
row-numbers ByPercentages l s h =
    let both = both_most l s h in
    let ns = ns_matchpoints l s in
    let ew = ew_matchpoints l s in
    rw (share-is l s ns ew h both, share-is l s ew ns h (omega arith))

-- ---- the rows one by one
-- the rows of the entries from place i on
abbrev pub rows_from : Columns → Tally → ℕ → List ℕ
rows_from k t i = rows (row_as k (scores_in t)) (map score (entries_at t.scores t.counts i))

-- the rows before place i are put
pub record Printed (k : Columns) (t : Tally) (out₀ : List ℕ) (at₀ : ℕ) (out : List ℕ) (at i : ℕ) : Type 0 where
  pub places : i ≤ 128
  pub scores : length t.scores ≡ 128
  pub counts : length t.counts ≡ 128
  pub well : well_formed t ≡ true
  pub done : List ℕ
  pub put : Put out₀ at₀ done out at
  pub top : ℤ
  pub suffix : Suffix (entries_in t) (entries_at t.scores t.counts i) top
  pub whole : rows_from k t 0 ≡ done ++ rows_from k t i

pub table-rows : (k : Columns) (t : Tally) → well_formed t ≡ true → table_as k (scores_in t) ≡ header_as k ++ rows_from k t 0
unfolding table cell_table
table-rows ByPoints t w = rw (distinct-entries (scores_in t), entries-scores t (formed t w))
table-rows ByPercentages t w = rw (distinct-entries (scores_in t), entries-scores t (formed t w))

pub begins : (k : Columns) (t : Tally) {before out : List ℕ} {at : ℕ} → length t.scores ≡ 128 → length t.counts ≡ 128 → well_formed t ≡ true
    → Put before 0 (header_as k) out at → Printed k t out at out at 0
begins k t ss cs w p =
    record {
      places = omega arith;
      scores = ss;
      counts = cs;
      well = w;
      done = [];
      put = put_next p;
      top = ceiling;
      suffix = record { ordered = (formed t w).ordered; same = λ (y : ℤ) e. refl };
      whole = refl;
    }

module _ (k : Columns) (t : Tally) (out₀ : List ℕ) (at₀ : ℕ) (out : List ℕ) (at i : ℕ) (w : Printed k t out₀ at₀ out at i) where
  -- the last row is put
  ended : entries_at t.scores t.counts i ≡ [] → Put out₀ at₀ (rows_from k t 0) out at
  unfolding rows
  ended e =
      let d : rows_from k t 0 ≡ w.done = w.whole ∙ rw e (append-nil w.done) in
      rw d w.put

  pub ends : i < 128 → get_or t.counts i 0 ≡ 0 → Put out₀ at₀ (rows_from k t 0) out at
  ends h z = ended (entries-unused t.scores t.counts i (omega (arith, w.scores)) (omega (arith, w.counts)) z)

  pub full : 128 ≤ i → Put out₀ at₀ (rows_from k t 0) out at
  full h = ended (entries_end t.scores t.counts i (omega (arith, w.scores)))

  module _ (h : i < 128) (u : get_or t.counts i 0 ≡ 0 → ⊥) where
    abbrev at_i : ℤ
    at_i = get_or t.scores i (pos 0)

    abbrev of_i : ℕ
    of_i = get_or t.counts i 0

    used : entries_at t.scores t.counts i ≡ entry at_i of_i ∷ entries_at t.scores t.counts (suc i)
    used = entries-used t.scores t.counts i (omega (arith, w.scores)) (omega (arith, w.counts)) u

    here : Suffix (entries_in t) (entry at_i of_i ∷ entries_at t.scores t.counts (suc i)) w.top
    here = rw used at w.suffix

    pub is-valid : valid_score at_i ≡ true
    is-valid = entry-valid _ _ _ _ here

    counted : occurrences at_i (scores_in t) ≡ of_i
    unfolding occurrences scores_in
    counted = in_expand (same_score at_i) (entries_in t) ∙ entry-count _ _ _ _ here

    -- the matchpoints of the score at place i, on the deal that the tally carries
    abbrev result : Result
    result = record { score = at_i; deal = t.deal }

    none_refused : given_refusal (results_in t) result ≡ refusal 0
    none_refused =
        let some : length (scores_in t) ≡ 0 → ⊥ = λ z. omega (arith, below_equal at_i (scores_in t), counted) in
        given_on_lem t.deal (scores_in t) at_i is-valid (deal_carried t.deal (length (scores_in t)) some (carried t w.well))

    pub answers : matchpoints_of t result ≡ given (record { ns = ns_matchpoints (scores_in t) at_i; ew = ew_matchpoints (scores_in t) at_i })
    unfolding matchpoints_of asked matchpoints
    answers = rw (w.well, none_refused, scores_on t.deal (scores_in t), is-valid, counted, ne_eqb of_i 0 u)

    -- the score as the code holds it
    pub as_held : to_z w16 (of_z w16 at_i) ≡ at_i
    as_held = to_z-of_z (valid-fits at_i is-valid)

    -- what the call answers for it
    module _ (r : Std.Result BothSides Refused) (e : points_answer r ≡ matchpoints_of t (record { score = to_z w16 (of_z w16 at_i); deal = t.deal })) where
      found : points_answer r ≡ given (record { ns = ns_matchpoints (scores_in t) at_i; ew = ew_matchpoints (scores_in t) at_i })
      found = e ∙ ap (λ (z : ℤ). matchpoints_of t (record { score = z; deal = t.deal })) as_held ∙ answers

      pub not-refused : (e : Refused) → r ≡ Std.Err e → ⊥
      not-refused e q =
          let told : points_answer r ≡ refused_at (number e.refusal) e.place = ap points_answer q in
          let z : ◌≡◌ {A = ℕ} 0 1 = cc (found, told) in
          omega arith

      pub both : (p : BothSides) → r ≡ Std.Ok p → (p.ns.0 ≡ ns_matchpoints (scores_in t) at_i) × (p.ew.0 ≡ ew_matchpoints (scores_in t) at_i)
      both p q =
          let told = sym (ap points_answer q) ∙ found in
          (same-ns _ _ told, same-ew _ _ told)

    once : 1 ≤ occurrences at_i (scores_in t)
    once = omega (arith, counted, entry-some _ _ _ _ here)

    -- the matchpoints of both sides are of at most 128 results
    pub few : (n e : ℕ) → n ≡ ns_matchpoints (scores_in t) at_i → e ≡ ew_matchpoints (scores_in t) at_i → n + e ≤ 254
    unfolding most_matchpoints
    few n e is-n is-e = omega (arith, both_most (scores_in t) at_i once, room-scores t (formed t w.well))

    -- its row
    its_row : rows_from k t i ≡ row_text k at_i of_i (ns_matchpoints (scores_in t) at_i) (ew_matchpoints (scores_in t) at_i) ++ rows_from k t (suc i)
    unfolding rows
    its_row = rw (used, row-numbers k (scores_in t) at_i once, counted)

    module _ (n e : ℕ) (is-n : n ≡ ns_matchpoints (scores_in t) at_i) (is-e : e ≡ ew_matchpoints (scores_in t) at_i) where
      abbrev text : List ℕ
      text = row_text k at_i of_i n e

      row_is : rows_from k t i ≡ text ++ rows_from k t (suc i)
      row_is = its_row ∙ rw (is-n, is-e)

      pub goes : (out' : List ℕ) (at' : ℕ) → Put out at text out' at' → Printed k t out₀ at₀ out' at' (i + 1)
      goes out' at' p =
          rw (add-one i)
          (record {
            places = omega arith;
            scores = w.scores;
            counts = w.counts;
            well = w.well;
            done = w.done ++ text;
            put = then w.put p;
            top = at_i;
            suffix = suffix_next _ _ _ _ here;
            whole = w.whole ∙ rw row_is (sym (append_assoc w.done text (rows_from k t (suc i))));
          })
