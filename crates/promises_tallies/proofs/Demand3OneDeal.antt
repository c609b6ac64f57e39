-- Demand 3 for trees whose results are of one deal with thirteen cards a seat, proved. Assumes nothing.
use Prim.Native.Nat.{ℕ, ◌≤◌, ◌<◌, ◌+◌}
use native.Mathlib.Omega.{arith}
use mathlib.Core.Path.{◌≡◌, refl, sym, ap, ap₂, ◌∙◌}
use mathlib.Core.Bool.{false}
use mathlib.Core.List.{List, [], ◌∷◌, ◌++◌}
use borrow.Author.Tests.{eq-eqb, le-ltb}
use lib.IntN.{ℤ}
use lib.ListN.{length, length-append}
use Rattle.laws.specs.Refusals.{refused, placed}
use Rattle.laws.specs.Law77.{valid_score}
use Rattle.laws.specs.Law78.{occurrences, matchpoints}
use Rattle.laws.specs.Tally.{Result, scores_of, on_deal, deal_of, Thirteen, Refusal, refusal, deal_refusal, add_refusal, merge_refusal, asked, leaves}
use Rattle.laws.specs.Tally.{Tree, fresh, add, merge, CallOf, last, in_add, in_first, in_second, board_of, list_of, refusal_of, added}
use Rattle.laws.specs.Tally.{OneBoard, OneDeal, AllValid, SameScores}
use Rattle.laws.proofs.TallyRules.{thirteen-deal, on_deal_lem, scores_on, scores_append, length-scores}
use Rattle.laws.proofs.OneDeal.{deal-parts, deal-first, same_carried, list-deal, call-deal, add_ruled, merge_ruled, asked_on_lem}
use Rattle.tally.specs.declared.Tally.{Tally}
use Rattle.tally.specs.Tallies.{tally_for, tally_of}
use Rattle.tally.specs.Points.{matchpoints_of}
use Rattle.tally.proofs.OfLists.{one-tally}
use Rattle.promises_tallies.specs.Demand3.{left, answer, Refusing, ruled_refusal, Plain, NoneRefused, OnOneDeal, Demand3}
use Rattle.promises_tallies.proofs.Demand3.{refusal-left, place-left, canonical-left, points-left, of_tree, too_many}

valid-parts : (l m : List ℤ) → AllValid (l ++ m) → AllValid l × AllValid m
unfolding AllValid
valid-parts [] m v = (tt, v)
valid-parts (s ∷ l) m v = let r = valid-parts l m v.1 in ((v.0, r.0), r.1)

-- no call of a tree is refused
abbrev Accepting : Tree → Type 0
Accepting t = (call : Tree) → CallOf t call → ((answer call).refusal ≡ 0 → ⊥) → ⊥

none_refusing : (t : Tree) → Accepting t → Refusing t → ⊥
none_refusing t h w = h w.call w.of w.refused

not_last : (t : Tree) → (refusal_of t).number ≡ 0 → ((answer t).refusal ≡ 0 → ⊥) → ⊥
not_last t e h = h (refusal-left t ∙ e)

none-add : (t : Tree) (r : Result) → (refusal_of (add t r)).number ≡ 0 → Accepting t → Accepting (add t r)
none-add t r e h call last = not_last (add t r) e
none-add t r e h call (in_add w) = h call w

none-merge : (t u : Tree) → (refusal_of (merge t u)).number ≡ 0 → Accepting t → Accepting u → Accepting (merge t u)
none-merge t u e h k call last = not_last (merge t u) e
none-merge t u e h k call (in_first w) = h call w
none-merge t u e h k call (in_second w) = k call w

none-fresh : (b : ℕ) (from : 1 ≤ b) (to : b ≤ 127) → Accepting (fresh b from to)
unfolding refusal_of
none-fresh b from to call last = not_last (fresh b from to) refl

-- nothing was refused: the list has what was added
record Taken (b : ℕ) (t : Tree) : Type 0 where
  none : Accepting t
  board : board_of t ≡ b
  list : list_of t ≡ added t

-- a score that isn't valid is refused before it is looked for
invalid_points : (l : List ℤ) (s : ℤ) → valid_score s ≡ false → matchpoints l s ≡ refused 20
unfolding matchpoints
invalid_points l s v = rw v

module _ (deal : List ℕ) (thirteen : Thirteen deal) where
  fine : (deal_refusal deal).number ≡ 0
  fine = ap (λ (r : Refusal). r.number) (thirteen-deal deal thirteen)

  -- a list of the tree as scores on the deal
  on : (t : Tree) → OneDeal deal (added t) → list_of t ≡ on_deal deal (scores_of (list_of t))
  on t o = on_deal_lem deal (list_of t) (list-deal deal t o)

  -- ---- a call by the rules without deals
  ruled : (t : Tree) → OneDeal deal (added t) → refusal_of t ≡ refusal (ruled_refusal t)
  unfolding refusal_of ruled_refusal added OneDeal
  ruled (fresh b from to) o = refl
  ruled (add t r) o =
      let p = deal-parts deal (added t) (r ∷ []) o in
      let e : r ≡ record { score = r.score; deal = deal } = ap (λ (d : List ℕ). record { score = r.score; deal = d }) p.1.0 in
      ap (add_refusal (list_of t)) e ∙ add_ruled deal fine (list_of t) (list-deal deal t p.0) r.score
  ruled (merge t u) o =
      let p = deal-parts deal (added t) (added u) o in
      merge_ruled deal (board_of t) (board_of u) (list_of t) (list_of u) (list-deal deal t p.0) (list-deal deal u p.1)

  ruled_number : (t : Tree) → OneDeal deal (added t) → (refusal_of t).number ≡ ruled_refusal t
  ruled_number t o = ap (λ (r : Refusal). r.number) (ruled t o)

  -- ---- one board, valid scores, at most 128: none is refused
  taken : (b : ℕ) (t : Tree) → OneBoard b t → OneDeal deal (added t) → AllValid (scores_of (added t)) → length (added t) ≤ 128 → Taken b t
  unfolding OneBoard board_of list_of refusal_of added AllValid leaves ruled_refusal
  taken b (fresh c from to) o d v r = record { none = none-fresh c from to; board = o; list = refl }
  taken b (add t x) o d v r =
      let n = length-append (added t) (x ∷ []) in
      let w = valid-parts (scores_of (added t)) (x.score ∷ []) (rw (scores_append (added t) (x ∷ [])) at v) in
      let p = deal-parts deal (added t) (x ∷ []) d in
      let k = taken b t o p.0 w.0 (omega arith) in
      let few : length (list_of t) + 1 ≤ 128 = omega (arith, ap length k.list, n, r) in
      let z : (add_refusal (list_of t) x).number ≡ 0 = ruled_number (add t x) d ∙ rw (w.1.0, le-ltb 128 (length (list_of t) + 1) few) in
      record { none = none-add t x z k.none; board = k.board; list = rw z (rw k.list) }
  taken b (merge t u) o d v r =
      let n = length-append (added t) (added u) in
      let w = valid-parts (scores_of (added t)) (scores_of (added u)) (rw (scores_append (added t) (added u)) at v) in
      let p = deal-parts deal (added t) (added u) d in
      let k = taken b t o.0 p.0 w.0 (omega arith) in
      let j = taken b u o.1 p.1 w.1 (omega arith) in
      let few : length (list_of t) + length (list_of u) ≤ 128 = omega (arith, ap length k.list, ap length j.list, n, r) in
      let z : (merge_refusal (board_of t) (list_of t) (board_of u) (list_of u)).number ≡ 0 =
      ruled_number (merge t u) d
      ∙ rw (eq-eqb (board_of t) (board_of u) (k.board ∙ sym j.board), le-ltb 128 (length (list_of t) + length (list_of u)) few) in
      record { none = none-merge t u z k.none j.none; board = k.board; list = rw z (rw (k.list, j.list)) }

  taken_of : (b : ℕ) (t : Tree) → Plain b deal t → Taken b t
  taken_of b t p = taken b t p.one_board p.one_deal p.valid p.room

  none_refused : (b : ℕ) (t : Tree) → Plain b deal t → NoneRefused b t
  unfolding SameScores
  none_refused b t p =
      let k = taken_of b t p in
      record { none = none_refusing t k.none; board = k.board; all = λ s. ap (λ (l : List Result). occurrences s (scores_of l)) k.list }

  -- ---- the same scores, each as often: the same tally
  plain-tally : (b : ℕ) (t : Tree) → Plain b deal t → left t ≡ tally_of b (on_deal deal (scores_of (added t)))
  plain-tally b t p =
      let k = taken_of b t p in
      canonical-left t ∙ ap₂ tally_of k.board (k.list ∙ on_deal_lem deal (added t) p.one_deal)

  on_tally : (b : ℕ) (l : List ℤ) → tally_of b (on_deal deal l) ≡ tally_for b (deal_of (on_deal deal l)) l
  unfolding tally_of
  on_tally b l = ap (tally_for b (deal_of (on_deal deal l))) (scores_on deal l)

  same_tally : (b : ℕ) (t u : Tree) → Plain b deal t → Plain b deal u → SameScores (scores_of (added t)) (scores_of (added u)) → left t ≡ left u
  same_tally b t u p q h =
      let l = scores_of (added t) in
      let m = scores_of (added u) in
      plain-tally b t p ∙ on_tally b l ∙ ap (λ (d : List ℕ). tally_for b d l) (same_carried deal l m h)
      ∙ one-tally b (deal_of (on_deal deal m)) l m p.valid q.valid h
      ∙ sym (plain-tally b u q ∙ on_tally b m)

  points : (t : Tree) → OneDeal deal (added t) → (s : ℤ)
      → matchpoints_of (left t) (record { score = s; deal = deal }) ≡ placed (matchpoints (scores_of (list_of t)) s)
  points t o s =
      let r : Result = record { score = s; deal = deal } in
      points-left t r ∙ ap (λ (l : List Result). asked matchpoints l r) (on t o) ∙ asked_on_lem deal fine matchpoints invalid_points (scores_of (list_of t)) s

  pub on_one_deal : OnOneDeal deal
  on_one_deal =
      record {
        refusal = λ t o call k.
            let d = call-deal deal t call k o in
            (refusal-left call ∙ ruled_number call d, place-left call ∙ ap (λ (r : Refusal). r.place) (ruled call d));
        board = λ t o. (of_tree t).shape.board;
        counts = λ t o. (of_tree t).counts;
        carries = λ t o h. (of_tree t).shape.deal ∙ deal-first deal (list_of t) (list-deal deal t o) h;
        none_refused = none_refused;
        same_tally = same_tally;
        too_many = λ t o h. too_many t h;
        points = points;
      }

pub demand_3 : Demand3
demand_3 = record { of_tree = of_tree; too_many = too_many; on_one_deal = on_one_deal }
