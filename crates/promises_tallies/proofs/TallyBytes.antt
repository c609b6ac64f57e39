-- What is promised of tallies in bytes and of the calls on them, proved. Assumes nothing.
use Prim.Native.Nat.{ℕ, zero, suc, ◌≤◌, ◌<◌, ◌+◌}
use native.Mathlib.Omega.{arith}
use mathlib.Core.Path.{◌≡◌, refl, sym, ap, ◌∙◌, subst}
use mathlib.Core.Logic.{◌⊎◌, inl, inr}
use mathlib.Core.Bool.{true, false}
use mathlib.Core.List.{List, ◌++◌}
use borrow.Author.Tests.{eq-eqb, ne_eqb, lt-ltb, le-ltb, ltb-true, ltb-false}
use lib.Dec.{ltb}
use lib.IntN.{ℤ}
use lib.ListN.{length, take, drop, take-append-drop}
use Rattle.laws.specs.Lent.{◌over◌}
use Rattle.laws.specs.Law77.{valid_score}
use Rattle.laws.specs.Refusals.{Placed, refused_at, given, placed}
use Rattle.laws.specs.Tally.{Result, ◌or_else◌, refusal, fresh_refusal, score_refusal, given_refusal, add_refusal, asked, leaves}
use Rattle.laws.specs.Percentages.{award, is_award}
use Rattle.laws.proofs.Tests.{by_test, not_both}
use Rattle.tally.specs.declared.Tally.{Tally}
use Rattle.tally.specs.InBytes.{tally_in}
use Rattle.tally.specs.Points.{matchpoints_of}
use Rattle.tally.specs.Tallies.{results_in, well_formed, no_tally, answer_of, fresh_of, add_of, merge_of}
use Rattle.merging.proofs.Answers.{add_malformed, first_malformed, second_malformed}
use Rattle.tally.proofs.InBytes.{length-tally-bytes, tally_back, bytes-tally, bytes_back}
use Rattle.tally.proofs.Ranges.{formed_range, none_range, none-bytes}
use Rattle.percentages.specs.Cells.{cell_of_tally}
use Rattle.tally_calls.specs.Calls.{number_of, buffer_left, in_room, spelled, result_of, tallied, fresh_call, add_call, merge_call}
use Rattle.tally_calls.specs.Calls.{points_bytes, matchpoints_call, cell_bytes, award_call, cell_call}
use Rattle.promises_tallies.specs.TallyBytes.{OfTallyBytes, CallRefusal, kept, OfCall, TallyCalls}
use Rattle.promises_tallies.proofs.Tallies.{none_malformed}
use Rattle.promises_tallies.proofs.TallyInRecord.{as_in_record}
use Rattle.promises_tallies.proofs.TallyNumbers.{Good, made_good, fresh_made, add_made, merge_made, good-points, good-award, good-cell}

-- ---- the bytes
other_length : (bytes : List ℕ) → (length bytes ≡ 398 → ⊥) → tally_in bytes ≡ no_tally
unfolding tally_in
other_length bytes n = rw (ne_eqb (length bytes) 398 n)

of-tally-bytes : OfTallyBytes
of-tally-bytes =
    record {
      bytes_back = bytes_back;
      tally_back = tally_back;
      told = λ t r. (length-tally-bytes t r, bytes-tally t r);
      described = formed_range;
      none = none_range;
      zeros = none-bytes;
      other_length = other_length;
      as_in_record = as_in_record;
    }

-- ---- the number and the buffer, of anything that is said in room
number-of : (needed : ℕ) (said : Placed (List ℕ)) → Good needed said → (number_of said ≡ 0) ⊎ CallRefusal (number_of said)
number-of needed (refused_at n place) g = inr (record { refusal = n; place = place; one_of = g.0; small = g.1; is = refl })
number-of needed (given bytes) g = inl refl

zero_of : (needed : ℕ) (said : Placed (List ℕ)) → Good needed said → number_of said ≡ 0 → (bytes : List ℕ) × (said ≡ given bytes)
zero_of needed (refused_at zero place) g z = not_both false g.0 refl
zero_of needed (refused_at (suc n) place) g z = absurd (omega arith)
zero_of needed (given bytes) g z = (bytes, refl)

refused-leaves : (said : Placed (List ℕ)) (old : List ℕ) → (number_of said ≡ 0 → ⊥) → buffer_left said old ≡ old
unfolding buffer_left
refused-leaves (refused_at n place) old h = refl
refused-leaves (given bytes) old h = absurd (h refl)

kept_leaves : (needed : ℕ) (said : Placed (List ℕ)) (old : List ℕ) → Good needed said → buffer_left said old ≡ kept said (take needed old) ++ drop needed old
unfolding buffer_left ◌over◌
kept_leaves needed (refused_at n place) old g = sym (take-append-drop needed old)
kept_leaves needed (given bytes) old g = rw g.0

module _ (needed : ℕ) (said : Placed (List ℕ)) (good : Good needed said) where
  in_short : (room : ℕ) → room < needed → in_room needed room said ≡ refused_at 1 0
  unfolding in_room
  in_short room h = rw (lt-ltb room needed h)

  in_long : (room : ℕ) → needed ≤ room → in_room needed room said ≡ said
  unfolding in_room
  in_long room h = rw (le-ltb room needed h)

  in_good : (room : ℕ) → Good needed (in_room needed room said)
  in_good room =
      by_test (ltb room needed)
      (λ (q : ltb room needed ≡ true). subst (Good needed) (sym (in_short room (ltb-true room needed q))) (refl, omega arith))
      (λ (q : ltb room needed ≡ false). subst (Good needed) (sym (in_long room (ltb-false room needed q))) good)

  pub in_room_lem : OfCall needed (λ room. in_room needed room said)
  in_room_lem =
      record {
        number = λ room. number-of needed (in_room needed room said) (in_good room);
        zero = λ room. zero_of needed (in_room needed room said) (in_good room);
        short = in_short;
        long = λ room h. in_long room h ∙ sym (in_long needed (omega arith));
        bytes = λ room bytes e. subst (Good needed) e (in_good room);
        refusal_leaves = λ old. refused-leaves (in_room needed (length old) said) old;
        leaves = λ old h.
            ap (λ (s : Placed (List ℕ)). buffer_left s old) (in_long (length old) h)
            ∙ kept_leaves needed said old good
            ∙ ap (λ (s : Placed (List ℕ)). kept s (take needed old) ++ drop needed old) (sym (in_long needed (omega arith)));
      }

-- ---- the calls
of_fresh : (board : ℕ) → OfCall 398 (fresh_call board)
unfolding fresh_call
of_fresh board = in_room_lem 398 (tallied (fresh_of board)) (made_good _ (fresh_made board))

of_merge : (a b : List ℕ) → OfCall 398 (merge_call a b)
unfolding merge_call
of_merge a b = in_room_lem 398 (tallied (merge_of (tally_in a) (tally_in b))) (made_good _ (merge_made (tally_in a) (tally_in b)))

of_award : (percent : ℕ) → OfCall 9 (award_call percent)
unfolding award_call
of_award percent = in_room_lem 9 (spelled cell_bytes (placed (award percent))) (good-award percent)

module _ (tally : List ℕ) (score : ℤ) (holders : List ℕ) where
  of_add : OfCall 398 (add_call tally score holders)
  unfolding add_call
  of_add = in_room_lem 398 (tallied (add_of (tally_in tally) (result_of score holders))) (made_good _ (add_made (tally_in tally) (result_of score holders)))

  of_matchpoints : OfCall 4 (matchpoints_call tally score holders)
  unfolding matchpoints_call
  of_matchpoints =
      in_room_lem 4 (spelled points_bytes (matchpoints_of (tally_in tally) (result_of score holders))) (good-points (tally_in tally) (result_of score holders))

  of_cell : OfCall 9 (cell_call tally score holders)
  unfolding cell_call
  of_cell = in_room_lem 9 (spelled cell_bytes (cell_of_tally (tally_in tally) (result_of score holders))) (good-cell (tally_in tally) (result_of score holders))

-- ---- single refusals
fresh-refused : (board : ℕ) → (board ≡ 0) ⊎ (127 < board) → fresh_refusal board ≡ 3
unfolding fresh_refusal
fresh-refused board (inl e) = rw (eq-eqb board 0 e)
fresh-refused board (inr k) = rw (ne_eqb board 0 (λ e. omega arith), lt-ltb 127 board k)

fresh_board : (board : ℕ) → (board ≡ 0) ⊎ (127 < board) → fresh_call board 398 ≡ refused_at 3 0
unfolding fresh_call in_room tallied fresh_of answer_of leaves
fresh_board board h = rw (fresh-refused board h)

other_award : (percent : ℕ) → (percent ≡ 60 → ⊥) → (percent ≡ 50 → ⊥) → (percent ≡ 40 → ⊥) → award_call percent 9 ≡ refused_at 20 0
unfolding award_call in_room award is_award
other_award percent a b c = rw (ne_eqb percent 60 a, ne_eqb percent 50 b, ne_eqb percent 40 c)

length_first : (bytes : List ℕ) → (length bytes ≡ 398 → ⊥) → well_formed (tally_in bytes) ≡ false
length_first bytes n = rw (other_length bytes n) none_malformed

first_17 : (a b : List ℕ) → well_formed (tally_in a) ≡ false → merge_call a b 398 ≡ refused_at 17 0
unfolding merge_call in_room tallied
first_17 a b w = rw (← first_malformed (tally_in a) (tally_in b) w)

second_17 : (a b : List ℕ) → well_formed (tally_in b) ≡ false → merge_call a b 398 ≡ refused_at 17 0
unfolding merge_call in_room tallied
second_17 a b w =
    by_test (well_formed (tally_in a))
    (λ (v : well_formed (tally_in a) ≡ true). rw (← second_malformed (tally_in a) (tally_in b) v w))
    (λ (v : well_formed (tally_in a) ≡ false). rw (← first_malformed (tally_in a) (tally_in b) v))

module _ (tally : List ℕ) (score : ℤ) (holders : List ℕ) where
  abbrev t : Tally
  t = tally_in tally

  abbrev r : Result
  r = result_of score holders

  module _ (w : well_formed t ≡ false) where
    add_17 : add_call tally score holders 398 ≡ refused_at 17 0
    unfolding add_call in_room tallied
    add_17 = rw (← add_malformed t r w)

    matchpoints_17 : matchpoints_call tally score holders 4 ≡ refused_at 17 0
    unfolding matchpoints_call in_room matchpoints_of
    matchpoints_17 = rw w

    cell_17 : cell_call tally score holders 9 ≡ refused_at 17 0
    unfolding cell_call in_room cell_of_tally
    cell_17 = rw w

  module _ (w : well_formed t ≡ true) (v : valid_score score ≡ false) where
    given_20 : given_refusal (results_in t) r ≡ refusal 20
    unfolding given_refusal score_refusal ◌or_else◌
    given_20 = rw v

    add_20 : add_call tally score holders 398 ≡ refused_at 20 0
    unfolding add_call in_room tallied add_of add_refusal ◌or_else◌ answer_of leaves
    add_20 = rw (w, given_20)

    matchpoints_20 : matchpoints_call tally score holders 4 ≡ refused_at 20 0
    unfolding matchpoints_call in_room matchpoints_of asked
    matchpoints_20 = rw (w, given_20)

    cell_20 : cell_call tally score holders 9 ≡ refused_at 20 0
    unfolding cell_call in_room cell_of_tally asked
    cell_20 = rw (w, given_20)

pub tally-calls : TallyCalls
tally-calls =
    record {
      bytes = of-tally-bytes;
      of_fresh = of_fresh;
      of_add = of_add;
      of_merge = of_merge;
      of_matchpoints = of_matchpoints;
      of_award = of_award;
      of_cell = of_cell;
      fresh_board = fresh_board;
      other_award = other_award;
      length_first = length_first;
      add_17 = add_17;
      first_17 = first_17;
      second_17 = second_17;
      matchpoints_17 = matchpoints_17;
      cell_17 = cell_17;
      add_20 = add_20;
      matchpoints_20 = matchpoints_20;
      cell_20 = cell_20;
    }
