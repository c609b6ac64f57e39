-- Request 110, proved: percentages, cells and awards. Assumes nothing.
use Prim.Native.Nat.{ℕ, ◌≤◌, ◌<◌, ◌+◌, ◌-◌, ◌*◌, ◌/◌, ◌%◌}
use native.Mathlib.Nat.{mul_comm, mul-suc, div-add-mod', mod-lt}
use native.Mathlib.Numerals.{add-one}
use native.Mathlib.Omega.{arith}
use mathlib.Core.Path.{◌≡◌, refl, sym, ap, ◌∙◌}
use mathlib.Core.Logic.{◌⊎◌, inl, inr}
use mathlib.Core.Bool.{Bool, true, false}
use mathlib.Core.List.{List}
use borrow.Author.Tests.{eqb-true, eqb-false, eq-eqb, ne_eqb}
use lib.Dec.{eqb}
use lib.Ieee.{Float}
use lib.IntN.{ℤ}
use lib.ListN.{length}
use Rattle.laws.specs.Refusals.{Answer, refused, answered, placed, malformed_tally, invalid_score}
use Rattle.laws.specs.Law77.{valid_score}
use Rattle.laws.specs.Law78.{occurrences, ns_matchpoints, ew_matchpoints}
use Rattle.laws.specs.Percentages.{most_matchpoints, as_float, percentage, ns_percentage, ew_percentage}
use Rattle.laws.specs.Percentages.{Cell, played, awarded, alone, cell_of, cell_asked, is_award, award}
use Rattle.laws.specs.CellSheet.{hundredths}
use Rattle.laws.specs.Tally.{Result, scores_of, Thirteen, Refusal, asked, Tree, list_of, added, OneDeal}
use Rattle.laws.proofs.Comparisons.{ns-counts, below_equal, both_most}
use Rattle.laws.proofs.TallyRules.{thirteen-deal, on_deal_lem}
use Rattle.laws.proofs.OneDeal.{list-deal, asked_on_lem}
use Rattle.laws.proofs.Tests.{by_test}
use Rattle.tally.specs.declared.Tally.{Tally}
use Rattle.tally.specs.Tallies.{no_tally}
use Rattle.percentages.specs.Cells.{cell_of_tally}
use Rattle.percentages.proofs.Told.{by_points, by_asked, by_points_lem}
use Rattle.percentages.proofs.Floats.{exactly, once, at_least_0, at_most_100, all-points, no_points, percentage-number}
use Rattle.promises_tallies.specs.Demand3.{left}
use Rattle.promises_tallies.specs.Percentages.{Compared, OfPercentage, OfCells, OverTrees, Rounded, Percentages}
use Rattle.promises_tallies.proofs.Tallies.{none_malformed}
use Rattle.promises_tallies.proofs.Demand3.{points-left}
use Rattle.promises_tallies.proofs.Demand3OneDeal.{demand_3}

-- ---- one result compared with others
module _ (l : List ℤ) (s : ℤ) (w : Compared l s) where
  both : ns_matchpoints l s + ew_matchpoints l s ≡ most_matchpoints l
  both = both_most l s w.some

  most-few : most_matchpoints l ≤ 254
  unfolding most_matchpoints
  most-few = omega (arith, w.room)

  some-most : 1 ≤ most_matchpoints l
  unfolding most_matchpoints
  some-most = omega (arith, w.more)

  -- a percentage of points up to the most, one side's or the other's
  module _ (points : ℕ) (h : points ≤ most_matchpoints l) where
    few : 100 * points < 4294967296
    few = omega (arith, most-few)

    small : most_matchpoints l < 4294967296
    small = omega (arith, most-few)

    some_is : 0 < most_matchpoints l
    some_is = omega (arith, some-most)

  ns-few : ns_matchpoints l s ≤ most_matchpoints l
  ns-few = omega (arith, both)

  ew-few : ew_matchpoints l s ≤ most_matchpoints l
  ew-few = omega (arith, both)

  of_percentage : OfPercentage l s
  unfolding ns_percentage ew_percentage most_matchpoints
  of_percentage =
      let n = ns_matchpoints l s in
      let e = ew_matchpoints l s in
      let m = most_matchpoints l in
      let f = few n ns-few in
      let g = small n ns-few in
      let p = some_is n ns-few in
      record {
        exact_points = exactly (100 * n) f;
        exact_most = exactly m g;
        rounds_once = once n m f g p;
        number = percentage-number n m f g p;
        from_0 = at_least_0 n m f g p;
        to_100 = at_most_100 n m f g p ns-few;
        top = λ h. all-points n m f g p (omega (arith, ns-counts s l w.some, below_equal s l));
        bottom = λ o h. no_points n m f g p (omega (arith, ns-counts s l w.some));
        complementary = omega (arith, both);
        other_side = once e m (few e ew-few) g p;
      }

-- ---- which answers there are
-- where a cell says alone, there is one result; none is awarded
abbrev Fair : ℕ → Answer Cell → Type 0
Fair n (refused k) = Unit {0}
Fair n (answered (played x)) = Unit {0}
Fair n (answered (awarded x)) = ⊥
Fair n (answered alone) = n ≡ 1

fair : (l : List ℤ) (s : ℤ) → Fair (length l) (cell_asked l s)
unfolding cell_asked cell_of
fair l s =
    by_test (valid_score s)
    (λ (v : valid_score s ≡ true). rw v (by_test (eqb (occurrences s l) 0)
    (λ (o : eqb (occurrences s l) 0 ≡ true). rw o tt)
    (λ (o : eqb (occurrences s l) 0 ≡ false). rw o (by_test (eqb (length l) 1)
    (λ (n : eqb (length l) 1 ≡ true). rw n (eqb-true (length l) 1 n))
    (λ (n : eqb (length l) 1 ≡ false). rw n tt)))))
    (λ (v : valid_score s ≡ false). rw v tt)

one_result : (l : List ℤ) (s : ℤ) → length l ≡ 1 → valid_score s ≡ true → 1 ≤ occurrences s l → cell_asked l s ≡ answered alone
unfolding cell_asked cell_of
one_result l s n v o = rw (v, ne_eqb (occurrences s l) 0 (λ q. omega (arith, o)), n)

awards : (n : ℕ) → (n ≡ 60) ⊎ (n ≡ 50) ⊎ (n ≡ 40) → award n ≡ answered (awarded (as_float n))
unfolding award is_award
awards n (inl e) = rw e
awards n (inr (inl e)) = rw e
awards n (inr (inr e)) = rw e

no_other : (n : ℕ) → (n ≡ 60 → ⊥) → (n ≡ 50 → ⊥) → (n ≡ 40 → ⊥) → award n ≡ refused invalid_score
unfolding award is_award
no_other n h k j = rw (ne_eqb n 60 h, ne_eqb n 50 k, ne_eqb n 40 j)

of_cells : OfCells
unfolding cell_of_tally
of_cells =
    record {
      only = λ l s e. rw e at (fair l s);
      one_result = one_result;
      not_awarded = λ l s x e. rw e at (fair l s);
      no_tally_lem = λ r. rw none_malformed;
      awards = awards;
      others = no_other;
    }

-- ---- trees
cell-left : (t : Tree) (r : Result) → cell_of_tally (left t) r ≡ asked cell_asked (list_of t) r
cell-left t r = sym (by_points_lem (left t) r) ∙ ap by_points (points-left t r) ∙ by_asked (list_of t) r

-- a score that isn't valid is refused before it is looked for
invalid_cell : (l : List ℤ) (s : ℤ) → valid_score s ≡ false → cell_asked l s ≡ refused invalid_score
unfolding cell_asked
invalid_cell l s v = rw v

cell_on : (deal : List ℕ) → Thirteen deal → (t : Tree) → OneDeal deal (added t) → (s : ℤ)
    → cell_of_tally (left t) (record { score = s; deal = deal }) ≡ placed (cell_asked (scores_of (list_of t)) s)
cell_on deal h t o s =
    let r : Result = record { score = s; deal = deal } in
    cell-left t r
    ∙ ap (λ (l : List Result). asked cell_asked l r) (on_deal_lem deal (list_of t) (list-deal deal t o))
    ∙ asked_on_lem deal (ap (λ (x : Refusal). x.number) (thirteen-deal deal h)) cell_asked invalid_cell (scores_of (list_of t)) s

over_trees : OverTrees
over_trees =
    record {
      of_tree = cell-left;
      of_answer = λ t r a h. h ∙ cell-left t r;
      on_one_deal = cell_on;
      same_cell = λ b d k t u p q h r a c e f. e ∙ ap (λ (x : Tally). cell_of_tally x r) ((demand_3.on_one_deal d k).same_tally b t u p q h) ∙ sym f;
    }

-- ---- rounded half up
rounded : (points most : ℕ) → 1 ≤ most → Rounded points most
unfolding hundredths
rounded points most h =
    let n = 20000 * points + most in
    let b = 2 * most in
    let q = n / b in
    let e = div-add-mod' n b in
    let r : n % b < b = mod-lt n (omega arith) in
    let c = mul_comm b q in
    let d = mul-suc b q in
    record { at_most = omega arith; nearer = rw (add-one q) (omega arith) }

pub percentages : Percentages
percentages = record { of_percentage = of_percentage; of_cells = of_cells; over_trees = over_trees; rounded = rounded }
