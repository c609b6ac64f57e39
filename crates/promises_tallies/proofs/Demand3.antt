-- Demand 3, proved: the calls of a tree leave the tally of its board and its list. Assumes nothing.
use Prim.Native.Nat.{ℕ, zero, suc, ◌≤◌, ◌<◌}
use native.Mathlib.Omega.{arith}
use mathlib.Core.Path.{◌≡◌, refl, sym, ap, ap₂, ◌∙◌}
use mathlib.Core.Logic.{◌⊎◌, inl, inr, ⊎_elim}
use mathlib.Core.List.{List, [], ◌∷◌, ◌++◌}
use lib.IntN.{ℤ}
use lib.ListN.{length, length-append}
use Rattle.laws.specs.Law78.{occurrences, matchpoints}
use Rattle.laws.specs.Tally.{Result, scores_of, on_deal, no_deal, deal_of, Refusal, refusal, add_refusal, merge_refusal, asked, leaves}
use Rattle.laws.specs.Tally.{Tree, fresh, add, merge, CallOf, last, in_add, in_first, in_second, board_of, list_of, refusal_of, added, AllValid}
use Rattle.laws.proofs.TallyRules.{Clear, scores_on, length_on, deal-thirteen, add_clear, merge_clear, merge-allowed}
use Rattle.laws.proofs.OneDeal.{all_on}
use Rattle.tally.specs.declared.Tally.{Tally}
use Rattle.tally.specs.Tallies.{Tallied}
use Rattle.tally.specs.Tallies.{tally_for, tally_of, answer_of, fresh_of, add_of, merge_of}
use Rattle.tally.specs.Points.{matchpoints_of}
use Rattle.tally.specs.Shape.{count_in, Shape}
use Rattle.tally.specs.Steps.{kept_deal}
use Rattle.tally.proofs.Refusing.{board-good}
use Rattle.tally.proofs.Dealing.{carried_none, deal_carried, deal_on_lem, tally_on}
use Rattle.tally.proofs.Kept.{on_add, on_merge, sound_add, sound_merge}
use Rattle.tally.proofs.OfLists.{Sound, is-well, tally-deal, answer-number, answer-place, left-answer, answer-left, add-list, merge-list, points-list}
use Rattle.tally.proofs.Shapes.{count-tally, shape-tally}
use Rattle.laws.proofs.TallyRules.{given-allowed, add-allowed}
use Rattle.promises_tallies.specs.Demand3.{left, answer, Refusing, OfTree}

-- ---- the list of a tree is of one deal, and the tally left is that of its board, that deal and its scores
pub record Stands (t : Tree) : Type 0 where
  pub deal : List ℕ
  pub scores : List ℤ
  pub list : list_of t ≡ on_deal deal scores
  pub sound : Sound (board_of t) deal scores
  pub tally : left t ≡ tally_for (board_of t) deal scores

fresh-tally : (b : ℕ) → 1 ≤ b → b ≤ 127 → fresh_of b ≡ answer_of (refusal 0) (tally_for b no_deal [])
unfolding fresh_of tally_of
fresh-tally b from to = rw (board-good b (λ e. omega arith) to)

left-fresh : (b : ℕ) (from : 1 ≤ b) (to : b ≤ 127) → left (fresh b from to) ≡ tally_for b no_deal []
unfolding left answer_of leaves
left-fresh b from to = ap (λ (a : Tallied). a.tally) (fresh-tally b from to)

stands-fresh : (b : ℕ) (from : 1 ≤ b) (to : b ≤ 127) → Stands (fresh b from to)
unfolding list_of board_of AllValid
stands-fresh b from to =
    record {
      deal = no_deal;
      scores = [];
      list = refl;
      sound = record { board = board-good b (λ e. omega arith) to; valid = tt; room = omega arith; deal = carried_none };
      tally = left-fresh b from to;
    }

-- ---- a result added
module _ (t : Tree) (r : Result) (w : Stands t) where
  abbrev longer : List ℤ
  longer = w.scores ++ (r.score ∷ [])

  abbrev its_add : Refusal
  its_add = add_refusal (list_of t) r

  add-called : add_of (left t) r ≡ answer_of its_add (tally_for (board_of t) r.deal longer)
  add-called = rw (w.tally, w.list) (add-list (board_of t) w.deal w.scores w.sound r)

  add_left : left (add t r) ≡ leaves its_add.number (tally_for (board_of t) r.deal longer) (left t)
  unfolding left
  add_left = rw add-called (left-answer its_add (tally_for (board_of t) r.deal longer) (left t))

  stands-add : (n : ℕ) → its_add.number ≡ n → Stands (add t r)
  unfolding list_of board_of leaves
  stands-add zero e =
      let z : (add_refusal (on_deal w.deal w.scores) r).number ≡ 0 = rw w.list at e in
      let g = given-allowed (on_deal w.deal w.scores) r (add-allowed (on_deal w.deal w.scores) r z).0 in
      record {
        deal = r.deal;
        scores = longer;
        list = rw e (rw w.list (on_add w.deal w.scores r g.2));
        sound = sound_add (board_of t) w.deal w.scores r w.sound z;
        tally = add_left ∙ rw e;
      }
  stands-add (suc n) e = record { deal = w.deal; scores = w.scores; list = rw e w.list; sound = w.sound; tally = add_left ∙ rw e w.tally }

-- ---- two trees merged
module _ (t u : Tree) (v : Stands t) (w : Stands u) where
  abbrev kept : List ℕ
  kept = kept_deal (length v.scores) v.deal w.deal

  abbrev both : List ℤ
  both = v.scores ++ w.scores

  abbrev its_merge : Refusal
  its_merge = merge_refusal (board_of t) (list_of t) (board_of u) (list_of u)

  merge-called : merge_of (left t) (left u) ≡ answer_of its_merge (tally_for (board_of t) kept both)
  merge-called =
      rw (v.tally, w.tally, v.list, w.list) (merge-list (board_of t) v.deal v.scores (board_of u) w.deal w.scores v.sound w.sound)

  merge-left : left (merge t u) ≡ leaves its_merge.number (tally_for (board_of t) kept both) (left t)
  unfolding left
  merge-left = rw merge-called (left-answer its_merge (tally_for (board_of t) kept both) (left t))

  stands-merge : (n : ℕ) → its_merge.number ≡ n → Stands (merge t u)
  unfolding list_of board_of leaves
  stands-merge zero e =
      let z : (merge_refusal (board_of t) (on_deal v.deal v.scores) (board_of u) (on_deal w.deal w.scores)).number ≡ 0 = rw (v.list, w.list) at e in
      let m = merge-allowed (board_of t) (on_deal v.deal v.scores) (board_of u) (on_deal w.deal w.scores) z in
      let n = length_on v.deal v.scores in
      let k = length_on w.deal w.scores in
      let s : Sound (board_of t) w.deal w.scores = rw m.0 w.sound in
      record {
        deal = kept;
        scores = both;
        list = rw e (rw (v.list, w.list) (on_merge v.deal v.scores w.deal w.scores m.1));
        sound = sound_merge (board_of t) v.deal v.scores w.deal w.scores v.sound s (omega (arith, m.2, n, k));
        tally = merge-left ∙ rw e;
      }
  stands-merge (suc n) e = record { deal = v.deal; scores = v.scores; list = rw e v.list; sound = v.sound; tally = merge-left ∙ rw e v.tally }

pub stands : (t : Tree) → Stands t
stands (fresh b from to) = stands-fresh b from to
stands (add t r) = stands-add t r (stands t) (add_refusal (list_of t) r).number refl
stands (merge t u) = stands-merge t u (stands t) (stands u) (merge_refusal (board_of t) (list_of t) (board_of u) (list_of u)).number refl

-- ---- what the last call answers
called : (t : Tree) → answer t ≡ answer_of (refusal_of t) (left t)
unfolding answer refusal_of
called (fresh b from to) = fresh-tally b from to ∙ ap (answer_of (refusal 0)) (sym (left-fresh b from to))
called (add t r) =
    let w = stands t in
    add-called t r w ∙ answer-left (its_add t r w) _ (left t) ∙ ap (answer_of (its_add t r w)) (sym (add_left t r w))
called (merge t u) =
    let v = stands t in
    let w = stands u in
    merge-called t u v w ∙ answer-left (its_merge t u v w) _ (left t) ∙ ap (answer_of (its_merge t u v w)) (sym (merge-left t u v w))

clear : (t : Tree) → Clear (refusal_of t)
unfolding refusal_of
clear (fresh b from to) = λ z. refl
clear (add t r) = add_clear (list_of t) r
clear (merge t u) = merge_clear (board_of t) (list_of t) (board_of u) (list_of u)

pub refusal-left : (t : Tree) → (answer t).refusal ≡ (refusal_of t).number
refusal-left t = ap (λ (a : Tallied). a.refusal) (called t) ∙ answer-number (refusal_of t) (left t)

pub place-left : (t : Tree) → (answer t).place ≡ (refusal_of t).place
place-left t = ap (λ (a : Tallied). a.place) (called t) ∙ answer-place (refusal_of t) (left t) (clear t)

-- ---- what a tree leaves
module _ (t : Tree) where
  abbrev w : Stands t
  w = stands t

  pub scores-left : scores_of (list_of t) ≡ w.scores
  scores-left = ap scores_of w.list ∙ scores_on w.deal w.scores

  pub room-left : length (list_of t) ≤ 128
  room-left = omega (arith, ap length w.list, length_on w.deal w.scores, w.sound.room)

  deal-left : deal_of (list_of t) ≡ w.deal
  deal-left = ap deal_of w.list ∙ deal_on_lem w.deal w.scores w.sound.deal

  own_deal : (left t).deal ≡ w.deal
  own_deal = ap (λ (x : Tally). x.deal) w.tally ∙ tally-deal (board_of t) w.deal w.scores

  pub canonical-left : left t ≡ tally_of (board_of t) (list_of t)
  canonical-left = w.tally ∙ sym (tally_on (board_of t) w.deal w.scores w.sound.deal) ∙ ap (tally_of (board_of t)) (sym w.list)

  -- matchpoints asked of it are those over the list
  pub points-left : (r : Result) → matchpoints_of (left t) r ≡ asked matchpoints (list_of t) r
  points-left r =
      ap (λ (x : Tally). matchpoints_of x r) w.tally ∙ points-list (board_of t) w.deal w.scores w.sound r
      ∙ ap (λ (l : List Result). asked matchpoints l r) (sym w.list)

  shape-left : Shape (left t) (board_of t) (deal_of (list_of t))
  shape-left = rw (w.tally, deal-left) (shape-tally (board_of t) w.deal w.scores w.sound)

  pub of_tree : OfTree t
  of_tree =
      record {
        refusal = λ u k. refusal-left u;
        place = λ u k. place-left u;
        answers = λ u k. called u;
        shape = shape-left;
        well = rw w.tally (is-well (board_of t) w.deal w.scores w.sound);
        one_deal = rw (own_deal, w.list) (all_on w.deal w.scores);
        thirteen = λ h. rw own_deal (deal-thirteen w.deal (deal_carried w.deal (length w.scores)
            (λ z. omega (arith, ap length w.list, length_on w.deal w.scores)) w.sound.deal));
        counts = λ s. ap (λ (x : Tally). count_in x s) w.tally ∙ count-tally (board_of t) w.deal w.scores w.sound s ∙ rw scores-left;
        canonical = canonical-left;
        points = points-left;
        points_answered = λ r a h. h ∙ points-left r;
      }

-- ---- the list has what the calls add, unless one of them is refused
refused-last : (t : Tree) (n : ℕ) → (refusal_of t).number ≡ suc n → Refusing t
refused-last t n e = record { call = t; of = last; refused = λ z. omega (arith, refusal-left t) }

-- a refused call within
refused_in : {t u : Tree} → ((call : Tree) → CallOf t call → CallOf u call) → Refusing t → Refusing u
refused_in within w = record { call = w.call; of = within w.call w.of; refused = w.refused }

either-add : (t : Tree) (r : Result) (n : ℕ) → (add_refusal (list_of t) r).number ≡ n → Refusing t ⊎ (list_of t ≡ added t)
    → Refusing (add t r) ⊎ (list_of (add t r) ≡ added (add t r))
unfolding refusal_of list_of added leaves
either-add t r (suc n) e w = inl (refused-last (add t r) n e)
either-add t r zero e (inl w) = inl (refused_in (λ k. in_add) w)
either-add t r zero e (inr w) = inr (rw e (rw w))

either-merge : (t u : Tree) (n : ℕ) → (merge_refusal (board_of t) (list_of t) (board_of u) (list_of u)).number ≡ n → Refusing t ⊎ (list_of t ≡ added t)
    → Refusing u ⊎ (list_of u ≡ added u)
    → Refusing (merge t u) ⊎ (list_of (merge t u) ≡ added (merge t u))
unfolding refusal_of list_of added leaves
either-merge t u (suc n) e v w = inl (refused-last (merge t u) n e)
either-merge t u zero e (inl v) w = inl (refused_in (λ k. in_first) v)
either-merge t u zero e (inr v) (inl w) = inl (refused_in (λ k. in_second) w)
either-merge t u zero e (inr v) (inr w) = inr (rw e (rw (v, w)))

either : (t : Tree) → Refusing t ⊎ (list_of t ≡ added t)
unfolding list_of added
either (fresh b from to) = inr refl
either (add t r) = either-add t r (add_refusal (list_of t) r).number refl (either t)
either (merge t u) = either-merge t u (merge_refusal (board_of t) (list_of t) (board_of u) (list_of u)).number refl (either t) (either u)

pub too_many : (t : Tree) → 128 < length (added t) → Refusing t
too_many t h =
    ⊎_elim
    (λ (w : Refusing t). w)
    (λ (q : list_of t ≡ added t). absurd (omega (arith, ap length q, room-left t)))
    (either t)
