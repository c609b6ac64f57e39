-- What `add` and `merge` give back, from what is known of their parts. Assumes nothing.
use Prim.Native.Nat.{ℕ, zero, suc, ◌≤◌, ◌+◌}
use native.Mathlib.Omega.{arith}
use mathlib.Core.Path.{◌≡◌, refl, sym, ap, ap₂, ◌∙◌}
use mathlib.Core.Bool.{true, false}
use mathlib.Core.List.{List, [], ◌∷◌, ◌++◌}
use lib.IntN.{ℤ}
use lib.ListN.{length}
use Rattle.std.specs.Prelude as Std
use Rattle.laws.specs.Refusals.{fouled_board}
use Rattle.laws.specs.declared.Refused.{Refused}
use Rattle.laws.specs.Tally.{Result, ◌or_else◌, leaves, Refusal, refusal, refusal_if, fouled_refusal, boards_refusal, room_refusal, given_refusal}
use Rattle.laws.specs.Tally.{fresh_refusal, add_refusal, merge_refusal, AllValid}
use Rattle.laws.specs.Padded.{padded}
use Rattle.laws.proofs.TallyRules.{or_second, none_or, length_on, given-allowed, add-allowed, merge-allowed}
use Rattle.tally.specs.declared.Size.{Size}
use Rattle.tally.specs.declared.Tally.{Tally}
use Rattle.tally.specs.Entries.{entries, expand, enter, entries_of}
use Rattle.tally.specs.Tallies.{tally_with, tally_for, tally_of, entries_in, scores_in, results_in, well_formed}
use Rattle.tally.specs.Tallies.{refused_with, accepting, answer_of, add_of, merge_of}
use Rattle.tally.specs.Steps.{size_of, check_of, apart, kept_deal, ruled, given_by}
use Rattle.merging.specs.Joins.{Joinable}
use Rattle.tally.proofs.Formed.{formed, places_formed, carried, placed-tally}
use Rattle.tally.proofs.Refusing.{some-refusal, refused_first, fouled_lists, given_law}
use Rattle.tally.proofs.Dealing.{tally-add, tally-merge}
use Rattle.tally.proofs.Checking.{checked, unchecked, size_results}

-- ---- an answer by its refusal
leaves-given : {A : Type 0} (n : ℕ) (made given : A) → (n ≡ 0 → ⊥) → given ≡ leaves n made given
unfolding leaves
leaves-given zero made given h = absurd (h refl)
leaves-given (suc n) made given h = refl

leaves_made : {A : Type 0} (n : ℕ) (made given : A) → n ≡ 0 → made ≡ leaves n made given
unfolding leaves
leaves_made zero made given e = refl
leaves_made (suc n) made given e = absurd (omega arith)

pub answer-refused : (r : Refusal) (made : Tally) → (r.number ≡ 0 → ⊥) → refused_with r ≡ answer_of r made
unfolding answer_of
answer-refused r made h = leaves-given r.number (accepting made) (refused_with r) h

pub answer-accepted : (r : Refusal) (made : Tally) → r.number ≡ 0 → accepting made ≡ answer_of r made
unfolding answer_of
answer-accepted r made e = leaves_made r.number (accepting made) (refused_with r) e

pub err_answer : (e : Refused) (r : Refusal) (made : Tally) → ruled e ≡ r → refused_with (ruled e) ≡ answer_of r made
err_answer e r made q = ap refused_with q ∙ answer-refused r made (some-refusal e r q)

-- ---- a tally of one result
one_result : (b : ℕ) (d : List ℕ) (s : ℤ) → scores_in (tally_for b d (s ∷ [])) ≡ s ∷ []
unfolding scores_in expand entries tally_for tally_with entries_of enter padded
one_result b d s = refl

one-used : (b : ℕ) (d : List ℕ) (s : ℤ) → 1 ≡ length (entries_in (tally_for b d (s ∷ [])))
unfolding entries tally_for tally_with entries_of enter padded
one-used b d s = refl

-- board and deal of a tally without a result
module _ (none : Tally) (b : ℕ) (d : List ℕ) (e : none ≡ tally_for b d []) where
  own_board : none.board ≡ b
  unfolding tally_for tally_with
  own_board = ap (λ (t : Tally). t.board) e

  own_deal : none.deal ≡ d
  unfolding tally_for tally_with
  own_deal = ap (λ (t : Tally). t.deal) e

  pub own_empty : none ≡ tally_for none.board none.deal []
  own_empty = e ∙ ap₂ (λ (n : ℕ) (k : List ℕ). tally_for n k []) (sym own_board) (sym own_deal)

  pub own_made : (l : List ℤ) → tally_for none.board none.deal l ≡ tally_for b d l
  own_made l = ap₂ (λ (n : ℕ) (k : List ℕ). tally_for n k l) own_board own_deal

-- ---- a result added
module _ (t : Tally) (r : Result) where
  pub add_malformed : well_formed t ≡ false → refused_with (refusal 17) ≡ add_of t r
  unfolding add_of answer_of leaves
  add_malformed e = rw e

  pub add_unchecked : (e : Refused) → Std.Err e ≡ check_of t → refused_with (ruled e) ≡ add_of t r
  add_unchecked e q = let p = unchecked t e q in ap (λ (x : Refused). refused_with (ruled x)) p.1 ∙ add_malformed p.0

  module _ (x : Size) (ok : Std.Ok x ≡ check_of t) where
    w : well_formed t ≡ true
    w = (checked t x ok).0

    ex : x ≡ size_of t
    ex = (checked t x ok).1

    -- the refusals of the code, as the rules have them
    abbrev by_deal : Refusal
    by_deal = given_by t.deal x.results r.score r.deal

    by-law : by_deal ≡ given_refusal (results_in t) r
    by-law = given_law t.deal x.results r.score r.deal (scores_in t) (size_results t x ex)

    by-room : room_refusal x.results 1 ≡ room_refusal (length (results_in t)) 1
    by-room = ap (λ (k : ℕ). room_refusal k 1) (size_results t x ex ∙ sym (length_on t.deal (scores_in t)))

    add_err : (e : Refused) → ruled e ≡ add_refusal (results_in t) r → refused_with (ruled e) ≡ add_of t r
    unfolding add_of
    add_err e q = rw w (err_answer e (add_refusal (results_in t) r) (tally_of t.board (results_in t ++ (r ∷ []))) q)

    pub add_not_given : (e : Refused) → ruled e ≡ by_deal → refused_with (ruled e) ≡ add_of t r
    unfolding add_refusal
    add_not_given e q = add_err e (refused_first e (given_refusal (results_in t) r) _ (q ∙ by-law))

    module _ (z : by_deal.number ≡ 0) where
      lawful : (given_refusal (results_in t) r).number ≡ 0
      lawful = sym (ap (λ (q : Refusal). q.number) by-law) ∙ z

      pub add-full : (e : Refused) → ruled e ≡ room_refusal x.results 1 → refused_with (ruled e) ≡ add_of t r
      unfolding add_refusal
      add-full e q = add_err e (q ∙ (by-room ∙ sym (or_second (given_refusal (results_in t) r) _ lawful)))

      pub add-passes : (room_refusal x.results 1).number ≡ 0 → (add_refusal (results_in t) r).number ≡ 0
      unfolding add_refusal
      add-passes q = none_or (given_refusal (results_in t) r) _ lawful (sym (ap (λ (q : Refusal). q.number) by-room) ∙ q)

    module _ (row : List ℕ) (none one : Tally) (en : none ≡ tally_for t.board row []) (eo : one ≡ tally_for none.board none.deal (r.score ∷ []))
        (e : (add_refusal (results_in t) r).number ≡ 0) where
      board_fine : fresh_refusal none.board ≡ 0
      board_fine = rw (own_board none t.board row en) (formed t w).board

      one-valid : AllValid (r.score ∷ [])
      unfolding AllValid
      one-valid = ((given-allowed (results_in t) r (add-allowed (results_in t) r e).0).0, tt)

      one_more : scores_in one ≡ r.score ∷ []
      one_more = ap scores_in eo ∙ one_result none.board none.deal r.score

      pub add_joinable : Joinable none t x.used one 1
      add_joinable =
          let room : length (scores_in t) + 1 ≤ 128 = omega (arith, (add-allowed (results_in t) r e).1, length_on t.deal (scores_in t)) in
          record {
            is_empty = own_empty none t.board row en;
            first = places_formed t w;
            second = rw eo (placed-tally none.board none.deal (r.score ∷ []) one-valid (omega arith) board_fine);
            first_used = ap (λ (z : Size). z.used) ex;
            second_used = rw eo (one-used none.board none.deal r.score);
            room = rw one_more room;
          }

      pub add-accepted : row ≡ r.deal → (u : Tally) → u ≡ tally_for none.board none.deal (scores_in t ++ scores_in one) → accepting u ≡ add_of t r
      unfolding add_of
      add-accepted er u eu =
          let made : u ≡ tally_of t.board (results_in t ++ (r ∷ [])) =
          eu ∙ own_made none t.board row en (scores_in t ++ scores_in one)
          ∙ ap₂ (λ (d : List ℕ) (l : List ℤ). tally_for t.board d (scores_in t ++ l)) er one_more
          ∙ sym (tally-add t.board t.deal (scores_in t) r (given-allowed (results_in t) r (add-allowed (results_in t) r e).0).2) in
          rw w (ap accepting made ∙ answer-accepted (add_refusal (results_in t) r) (tally_of t.board (results_in t ++ (r ∷ []))) e)

-- ---- two tallies merged
module _ (a b : Tally) where
  pub first_malformed : well_formed a ≡ false → refused_with (refusal 17) ≡ merge_of a b
  unfolding merge_of answer_of leaves
  first_malformed e = rw e

  pub second_malformed : well_formed a ≡ true → well_formed b ≡ false → refused_with (refusal 17) ≡ merge_of a b
  unfolding merge_of answer_of leaves
  second_malformed v e = rw (v, e)

  pub merge_first_unchecked : (e : Refused) → Std.Err e ≡ check_of a → refused_with (ruled e) ≡ merge_of a b
  merge_first_unchecked e q = let p = unchecked a e q in ap (λ (x : Refused). refused_with (ruled x)) p.1 ∙ first_malformed p.0

  module _ (x : Size) (okx : Std.Ok x ≡ check_of a) where
    v : well_formed a ≡ true
    v = (checked a x okx).0

    ex2 : x ≡ size_of a
    ex2 = (checked a x okx).1

    pub merge_second_unchecked : (e : Refused) → Std.Err e ≡ check_of b → refused_with (ruled e) ≡ merge_of a b
    merge_second_unchecked e q = let p = unchecked b e q in ap (λ (x : Refused). refused_with (ruled x)) p.1 ∙ second_malformed v p.0

    module _ (y : Size) (oky : Std.Ok y ≡ check_of b) where
      w2 : well_formed b ≡ true
      w2 = (checked b y oky).0

      ey : y ≡ size_of b
      ey = (checked b y oky).1

      -- the refusal of the two
      abbrev pub both_refusal : Refusal
      both_refusal = merge_refusal a.board (results_in a) b.board (results_in b)

      -- the refusals of the code, as the rules have them
      abbrev by_deals : Refusal
      by_deals = refusal_if (apart x.results y.results a.deal b.deal) fouled_board

      by-fouls : by_deals ≡ fouled_refusal (results_in a) (results_in b)
      by-fouls = fouled_lists x.results y.results a.deal (scores_in a) b.deal (scores_in b) (size_results a x ex2) (size_results b y ey)

      by-both : room_refusal x.results y.results ≡ room_refusal (length (results_in a)) (length (results_in b))
      by-both =
          ap₂ room_refusal (size_results a x ex2 ∙ sym (length_on a.deal (scores_in a))) (size_results b y ey ∙ sym (length_on b.deal (scores_in b)))

      merge_err : (e : Refused) → ruled e ≡ both_refusal → refused_with (ruled e) ≡ merge_of a b
      unfolding merge_of
      merge_err e q = rw (v, w2) (err_answer e both_refusal (tally_of a.board (results_in a ++ results_in b)) q)

      pub merge_two_boards : (e : Refused) → ruled e ≡ boards_refusal a.board b.board → refused_with (ruled e) ≡ merge_of a b
      unfolding merge_refusal
      merge_two_boards e q = merge_err e (refused_first e (boards_refusal a.board b.board) _ q)

      module _ (zb : (boards_refusal a.board b.board).number ≡ 0) where
        past-boards : both_refusal ≡ fouled_refusal (results_in a) (results_in b) or_else room_refusal (length (results_in a)) (length (results_in b))
        unfolding merge_refusal
        past-boards = or_second (boards_refusal a.board b.board) _ zb

        pub merge_fouled : (e : Refused) → ruled e ≡ by_deals → refused_with (ruled e) ≡ merge_of a b
        merge_fouled e q = merge_err e (refused_first e (fouled_refusal (results_in a) (results_in b)) _ (q ∙ by-fouls) ∙ sym past-boards)

        module _ (zf : by_deals.number ≡ 0) where
          past-fouls : both_refusal ≡ room_refusal x.results y.results
          past-fouls =
              past-boards ∙ (or_second (fouled_refusal (results_in a) (results_in b)) _ (sym (ap (λ (q : Refusal). q.number) by-fouls) ∙ zf) ∙ sym by-both)

          pub merge-full : (e : Refused) → ruled e ≡ room_refusal x.results y.results → refused_with (ruled e) ≡ merge_of a b
          merge-full e q = merge_err e (q ∙ sym past-fouls)

          pub merge-passes : (room_refusal x.results y.results).number ≡ 0 → both_refusal.number ≡ 0
          merge-passes q = ap (λ (q : Refusal). q.number) past-fouls ∙ q

      module _ (kept : List ℕ) (none : Tally) (en : none ≡ tally_for a.board kept []) (e : both_refusal.number ≡ 0) where
        pub merge_joinable : Joinable none a x.used b y.used
        merge_joinable =
            let m = merge-allowed a.board (results_in a) b.board (results_in b) e in
            record {
              is_empty = own_empty none a.board kept en;
              first = places_formed a v;
              second = places_formed b w2;
              first_used = ap (λ (z : Size). z.used) ex2;
              second_used = ap (λ (z : Size). z.used) ey;
              room = omega (arith, m.2, length_on a.deal (scores_in a), length_on b.deal (scores_in b));
            }

        pub merge-accepted : kept ≡ kept_deal x.results a.deal b.deal → (u : Tally)
            → u ≡ tally_for none.board none.deal (scores_in a ++ scores_in b) → accepting u ≡ merge_of a b
        unfolding merge_of
        merge-accepted ek u eu =
            let made : u ≡ tally_of a.board (results_in a ++ results_in b) =
            eu ∙ own_made none a.board kept en (scores_in a ++ scores_in b)
            ∙ ap (λ (d : List ℕ). tally_for a.board d (scores_in a ++ scores_in b))
            (ek ∙ ap (λ (n : ℕ). kept_deal n a.deal b.deal) (size_results a x ex2))
            ∙ sym (tally-merge a.board a.deal (scores_in a) b.deal (scores_in b) (carried b w2)) in
            rw (v, w2) (ap accepting made ∙ answer-accepted both_refusal (tally_of a.board (results_in a ++ results_in b)) e)
