-- Demand 3 on bytes, proved: the bytes left are those of the tally left, so that each sentence is the one on tallies. Assumes nothing.
use Prim.Native.Nat.{ℕ, zero, suc, ◌≤◌}
use native.Mathlib.Omega.{arith}
use mathlib.Core.Path.{◌≡◌, refl, sym, ap, ap₂, ◌∙◌}
use mathlib.Core.Bool.{true, false}
use mathlib.Core.List.{List}
use borrow.Author.Tests.{eqb-true, ne_eqb}
use lib.Dec.{eqb}
use lib.IntN.{ℤ}
use Rattle.laws.specs.Refusals.{Placed, given, refusal_number}
use Rattle.laws.specs.Tally.{Result, leaves, Tree, fresh, add, merge, last, refusal_of}
use Rattle.laws.proofs.Tests.{by_test}
use Rattle.tally.specs.declared.Tally.{Tally}
use Rattle.tally.specs.Tallies.{Tallied}
use Rattle.tally.specs.InBytes.{tally_bytes, tally_in}
use Rattle.tally.specs.Points.{matchpoints_of}
use Rattle.tally.specs.Tallies.{answer_of, fresh_of, add_of, merge_of}
use Rattle.tally.proofs.InBytes.{tally_back}
use Rattle.tally.proofs.Ranges.{formed_range}
use Rattle.percentages.specs.Cells.{cell_of_tally}
use Rattle.tally_calls.specs.Calls.{number_of, in_room, spelled, result_of, tallied, fresh_call, add_call, merge_call}
use Rattle.tally_calls.specs.Calls.{points_bytes, matchpoints_call, cell_bytes, cell_call}
use Rattle.promises_tallies.specs.Demand3.{left, answer, Refusing}
use Rattle.promises_tallies.specs.TallyBytes.{kept}
use Rattle.promises_tallies.specs.Demand3Bytes.{left_bytes, said, RefusingBytes, OfTreeBytes, Demand3Bytes}
use Rattle.promises_tallies.proofs.Demand3.{of_tree, too_many, refusal-left, place-left}
use Rattle.promises_tallies.proofs.Demand3OneDeal.{demand_3}
use Rattle.promises_tallies.proofs.Percentages.{percentages}

-- ---- a call on bytes is the call on tallies
-- what a call keeps is what it leaves, as bytes
pub kept-left : (r : Tallied) (before : Tally) → kept (tallied r) (tally_bytes before) ≡ tally_bytes (leaves r.refusal r.tally before)
unfolding tallied leaves
kept-left r before = go r.refusal refl
  where
    go : (n : ℕ) → r.refusal ≡ n → kept (tallied r) (tally_bytes before) ≡ tally_bytes (leaves r.refusal r.tally before)
    go zero e = rw e
    go (suc n) e = rw (ne_eqb r.refusal 0 (λ z. omega (arith, e, z)), e)

-- the number of what a call answers
tallied-number : (r : Tallied) → (r.refusal ≡ 0 → r.place ≡ 0) → number_of (tallied r) ≡ refusal_number r.refusal r.place
unfolding tallied
tallied-number r clear =
    by_test (eqb r.refusal 0)
    (λ (q : eqb r.refusal 0 ≡ true). let z = eqb-true r.refusal 0 q in rw (q, z, clear z))
    (λ (q : eqb r.refusal 0 ≡ false). rw q)

-- a tree's tally is read back from its bytes
back : (t : Tree) → tally_in (tally_bytes (left t)) ≡ left t
back t = tally_back (left t) (formed_range (left t) (of_tree t).well)

add-said : (t : Tree) (r : Result) → add_call (tally_bytes (left t)) r.score r.deal 398 ≡ tallied (add_of (left t) r)
unfolding add_call in_room
add-said t r = ap (λ (x : Tally). tallied (add_of x r)) (back t)

merge-said : (t u : Tree) → merge_call (tally_bytes (left t)) (tally_bytes (left u)) 398 ≡ tallied (merge_of (left t) (left u))
unfolding merge_call in_room
merge-said t u = ap₂ (λ (x y : Tally). tallied (merge_of x y)) (back t) (back u)

fresh-said : (board : ℕ) (from : 1 ≤ board) (to : board ≤ 127) → fresh_call board 398 ≡ given (tally_bytes (fresh_of board).tally)
unfolding fresh_call in_room tallied answer refusal_of
fresh-said board from to = rw (refusal-left (fresh board from to))

left_is : (t : Tree) → left_bytes t ≡ tally_bytes (left t)
unfolding left_bytes left
left_is (fresh board from to) = rw (fresh-said board from to)
left_is (add t r) =
    rw (left_is t) (ap (λ (s : Placed (List ℕ)). kept s (tally_bytes (left t))) (add-said t r) ∙ kept-left (add_of (left t) r) (left t))
left_is (merge t u) =
    rw (left_is t, left_is u)
    (ap (λ (s : Placed (List ℕ)). kept s (tally_bytes (left t))) (merge-said t u) ∙ kept-left (merge_of (left t) (left u)) (left t))

-- ---- every tree
module _ (t : Tree) where
  read_back : tally_in (left_bytes t) ≡ left t
  read_back = ap tally_in (left_is t) ∙ back t

  points-said : (score : ℤ) (holders : List ℕ)
      → matchpoints_call (left_bytes t) score holders 4 ≡ spelled points_bytes (matchpoints_of (left t) (result_of score holders))
  unfolding matchpoints_call in_room
  points-said score holders = ap (λ (x : Tally). spelled points_bytes (matchpoints_of x (result_of score holders))) read_back

  cell-said : (score : ℤ) (holders : List ℕ)
      → cell_call (left_bytes t) score holders 9 ≡ spelled cell_bytes (cell_of_tally (left t) (result_of score holders))
  unfolding cell_call in_room
  cell-said score holders = ap (λ (x : Tally). spelled cell_bytes (cell_of_tally x (result_of score holders))) read_back

says : (t : Tree) → said t ≡ tallied (answer t)
unfolding said answer fresh_call in_room
says (fresh board from to) = refl
says (add t r) = ap (λ (b : List ℕ). add_call b r.score r.deal 398) (left_is t) ∙ add-said t r
says (merge t u) = ap₂ (λ (a b : List ℕ). merge_call a b 398) (left_is t) (left_is u) ∙ merge-said t u

-- a call that is not refused has place 0
clear : (t : Tree) → (answer t).refusal ≡ 0 → (answer t).place ≡ 0
unfolding answer_of leaves
clear t z =
    let e = (of_tree t).answers t last in
    let n : (refusal_of t).number ≡ 0 = sym (refusal-left t) ∙ z in
    ap (λ (a : Tallied). a.place) e ∙ rw n

answer-number : (t : Tree) → number_of (said t) ≡ refusal_number (answer t).refusal (answer t).place
answer-number t = ap number_of (says t) ∙ tallied-number (answer t) (clear t)

number_is : (t : Tree) → number_of (said t) ≡ refusal_number (refusal_of t).number (refusal_of t).place
number_is t = answer-number t ∙ ap₂ refusal_number (refusal-left t) (place-left t)

of_tree_bytes : (t : Tree) → OfTreeBytes t
of_tree_bytes t =
    record {
      left_is = left_is t;
      read_back = read_back t;
      well = rw (read_back t) (of_tree t).well;
      canonical = left_is t ∙ ap tally_bytes (of_tree t).canonical;
      says = λ call k. says call;
      number = λ call k. number_is call;
      points = λ score holders. points-said t score holders ∙ ap (spelled points_bytes) ((of_tree t).points (result_of score holders));
      cell = λ score holders. cell-said t score holders ∙ ap (spelled cell_bytes) (percentages.over_trees.of_tree t (result_of score holders));
    }

-- ---- refused calls
-- a call returns another number than 0 exactly where it is refused
zero_number : (t : Tree) → (answer t).refusal ≡ 0 → number_of (said t) ≡ 0
unfolding tallied
zero_number t z = ap number_of (says t) ∙ rw z

number-zero : (t : Tree) → number_of (said t) ≡ 0 → (answer t).refusal ≡ 0
number-zero t z = refusal-left t ∙ omega (arith, number_is t, z)

bytes_refusing : {t : Tree} → Refusing t → RefusingBytes t
bytes_refusing w = record { call = w.call; of = w.of; refused = λ z. w.refused (number-zero w.call z) }

refusing_bytes : {t : Tree} → RefusingBytes t → Refusing t
refusing_bytes w = record { call = w.call; of = w.of; refused = λ z. w.refused (zero_number w.call z) }

pub demand_3_bytes : Demand3Bytes
demand_3_bytes =
    record {
      of_tree = of_tree_bytes;
      too_many = λ t h. bytes_refusing (too_many t h);
      on_one_deal = λ deal h.
          let d = demand_3.on_one_deal deal h in
          record {
            number = λ t o call k. let r = d.refusal t o call k in answer-number call ∙ ap₂ refusal_number r.0 r.1;
            none_refused = λ board t p w. (d.none_refused board t p).none (refusing_bytes w);
            same_bytes = λ board t u p q s. left_is t ∙ ap tally_bytes (d.same_tally board t u p q s) ∙ sym (left_is u);
            points = λ t o score. points-said t score deal ∙ ap (spelled points_bytes) (d.points t o score);
            cell = λ t o score. cell-said t score deal ∙ ap (spelled cell_bytes) (percentages.over_trees.on_one_deal deal h t o score);
          };
    }
