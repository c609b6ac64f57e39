-- The tables of the sheets by the entries of a tally, one after the other. Assumes nothing.
use Prim.Native.Nat.{ℕ, ◌+◌, ◌*◌, ◌≤◌}
use native.Mathlib.Omega.{arith}
use mathlib.Core.Path.{◌≡◌, refl, sym, ap, ◌∙◌}
use mathlib.Core.Bool.{Bool, true, false}
use mathlib.Core.List.{List, [], ◌∷◌, map}
use borrow.Author.Tests.{eqb-true, eqb-false}
use lib.Dec.{eqb}
use lib.IntN.{ℤ}
use lib.ListN.{length}
use lib.Signed.{lt_z}
use Rattle.laws.specs.Choice.{how_many}
use Rattle.laws.specs.Law77.{valid_score}
use Rattle.laws.specs.Law78.{same_score, occurrences, comparisons, others, ns_matchpoints, ew_matchpoints}
use Rattle.laws.specs.CellSheet.{share, cell_row, cell_table}
use Rattle.laws.specs.Percentages.{most_matchpoints}
use Rattle.laws.specs.Sheet.{insert, distinct, row, rows, table}
use Rattle.laws.proofs.Comparisons.{lower, ns-counts}
use Rattle.laws.proofs.Scores.{Order, less, same, more, order, below_trans, not_below_self, is_self}
use Rattle.laws.proofs.Tests.{by_test, not_both}
use Rattle.tally.specs.declared.Entry.{Entry}
use Rattle.tally.specs.Entries.{score, count, enter, entries_of}
use Rattle.tally.specs.Tallies.{tally_for, entries_in, scores_in}
use Rattle.tally.proofs.Ordered.{in_entries, count_of, Ordered, some_at}
use Rattle.tally.proofs.Lists.{in_expand, in_list}
use Rattle.tally.proofs.Formed.{entries-tally, length-tally}
use Rattle.tally.proofs.OfLists.{Sound}

-- ---- the distinct scores are those of the entries
insert-enter : (s : ℤ) (es : List Entry) → insert s (map score es) ≡ map score (enter s es)
unfolding insert enter
insert-enter s [] = refl
insert-enter s (e ∷ es) =
    by_test (lt_z s (score e))
    (λ (q : lt_z s (score e) ≡ true). rw (q, insert-enter s es))
    (λ (q : lt_z s (score e) ≡ false). rw q (by_test (same_score s (score e))
    (λ (p : same_score s (score e) ≡ true). rw p)
    (λ (p : same_score s (score e) ≡ false). rw p)))

pub distinct-entries : (l : List ℤ) → distinct l ≡ map score (entries_of l)
unfolding distinct entries_of
distinct-entries [] = refl
distinct-entries (s ∷ l) = rw (distinct-entries l) (insert-enter s (entries_of l))

-- ---- lists of the same scores have the same rows
comparisons-counts : (s : ℤ) (l : List ℤ) → comparisons s l ≡ 2 * how_many (lower s) l + occurrences s l
unfolding ns_matchpoints others occurrences how_many
comparisons-counts s l =
    let n = ns-counts s (s ∷ l) (rw (is_self s) (omega arith)) in
    let m = rw (is_self s, not_below_self s) at n in
    omega arith

absent : (s : ℤ) (l : List ℤ) → occurrences s l ≡ 0 → others s l ≡ l
unfolding others occurrences how_many
absent s [] e = refl
absent s (r ∷ l) e =
    by_test (same_score s r)
    (λ (q : same_score s r ≡ true). absurd (omega (arith, rw q at e)))
    (λ (q : same_score s r ≡ false). rw (q, absent s l (omega (arith, rw q at e))))

rows_alike : (f g : ℤ → List ℕ) → ((s : ℤ) → f s ≡ g s) → (ss : List ℤ) → rows f ss ≡ rows g ss
unfolding rows
rows_alike f g alike [] = refl
rows_alike f g alike (s ∷ ss) = rw (alike s, rows_alike f g alike ss)

module _ (l m : List ℤ) (same_length : length l ≡ length m) (counts : (test : ℤ → Bool) → how_many test l ≡ how_many test m) where
  same-occurrences : (s : ℤ) → occurrences s l ≡ occurrences s m
  unfolding occurrences
  same-occurrences s = counts (same_score s)

  same-ns : (s : ℤ) → ns_matchpoints l s ≡ ns_matchpoints m s
  unfolding ns_matchpoints
  same-ns s =
      let o = same-occurrences s in
      by_test (eqb (occurrences s m) 0)
      (λ (q : eqb (occurrences s m) 0 ≡ true).
      let z = eqb-true (occurrences s m) 0 q in
      rw (absent s l (o ∙ z), absent s m z) (omega (arith, comparisons-counts s l, comparisons-counts s m, counts (lower s))))
      (λ (q : eqb (occurrences s m) 0 ≡ false).
      let z = eqb-false (occurrences s m) 0 q in
      omega (arith, ns-counts s l (omega arith), ns-counts s m (omega arith), counts (lower s)))

  same_row : (s : ℤ) → row l s ≡ row m s
  unfolding row ew_matchpoints
  same_row s = rw (same-occurrences s, same-ns s, same_length)

  same_cells : (s : ℤ) → cell_row l s ≡ cell_row m s
  unfolding cell_row share ew_matchpoints most_matchpoints
  same_cells s = rw (same-occurrences s, same-ns s, same_length)

  module _ (e : distinct l ≡ distinct m) where
    pub same-table : table l ≡ table m
    unfolding table
    same-table = rw (e, rows_alike (row l) (row m) same_row (distinct m))

    pub same-cell-table : cell_table l ≡ cell_table m
    unfolding cell_table
    same-cell-table = rw (e, rows_alike (cell_row l) (cell_row m) same_cells (distinct m))

-- the scores that a tally holds have the table of the list that it was made of
module _ (b : ℕ) (d : List ℕ) (l : List ℤ) (w : Sound b d l) where
  own_counts : (test : ℤ → Bool) → how_many test (scores_in (tally_for b d l)) ≡ how_many test l
  unfolding scores_in
  own_counts test = in_expand test (entries_in (tally_for b d l)) ∙ ap (in_entries test) (entries-tally b d l w.valid w.room) ∙ in_list test l

  module _ (own : entries_of (scores_in (tally_for b d l)) ≡ entries_in (tally_for b d l)) where
    own_distinct : distinct (scores_in (tally_for b d l)) ≡ distinct l
    own_distinct =
        distinct-entries (scores_in (tally_for b d l)) ∙ ap (map score) (own ∙ entries-tally b d l w.valid w.room) ∙ sym (distinct-entries l)

    pub table-tally : table (scores_in (tally_for b d l)) ≡ table l
    table-tally = same-table (scores_in (tally_for b d l)) l (length-tally b d l w.valid w.room) own_counts own_distinct

    pub cell-table-tally : cell_table (scores_in (tally_for b d l)) ≡ cell_table l
    cell-table-tally = same-cell-table (scores_in (tally_for b d l)) l (length-tally b d l w.valid w.room) own_counts own_distinct

-- ---- the entries from a place on
-- entries at the end of others: they fall from below `top`, and no earlier entry has a score below it
pub record Suffix (whole rest : List Entry) (top : ℤ) : Type 0 where
  pub ordered : Ordered top rest
  pub same : (y : ℤ) → lt_z y top ≡ true → count_of y whole ≡ count_of y rest

below-not-same : (a b : ℤ) → lt_z a b ≡ true → same_score a b ≡ false
below-not-same a b h = go (order a b)
  where
    go : Order a b → same_score a b ≡ false
    go (less w) = w.ne
    go (same e) = not_both (lt_z a b) h (rw e (not_below_self b))
    go (more w) = not_both (lt_z a b) h w.ge

module _ (whole rest : List Entry) (top : ℤ) (e : Entry) (w : Suffix whole (e ∷ rest) top) where
  pub entry-valid : valid_score (score e) ≡ true
  entry-valid = w.ordered.0

  pub entry-count : count_of (score e) whole ≡ count e
  entry-count = w.same (score e) w.ordered.1 ∙ some_at e rest w.ordered.3

  pub entry-some : 1 ≤ count e
  entry-some = w.ordered.2

  pub suffix_next : Suffix whole rest (score e)
  suffix_next =
      record {
        ordered = w.ordered.3;
        same = λ (y : ℤ) h. w.same y (below_trans y (score e) top h w.ordered.1) ∙ rw (below-not-same y (score e) h) (omega arith);
      }
