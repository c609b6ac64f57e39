-- Lists of results that are all of one deal, and the rules of tally calls on them. Assumes nothing.
use Rattle.std.specs.Prelude.{if◌then◌else◌}
use Prim.Native.Nat.{ℕ, zero, suc, ◌+◌, ◌≤◌}
use native.Mathlib.Omega.{arith}
use mathlib.Core.Path.{◌≡◌, refl, sym, ap, ◌∙◌, subst}
use mathlib.Core.Bool.{true, false, not}
use mathlib.Core.List.{List, [], ◌∷◌, ◌++◌}
use lib.Dec.{ltb, eqb}
use lib.IntN.{ℤ}
use lib.ListN.{length}
use Rattle.laws.specs.Choice.{how_many}
use Rattle.laws.specs.Refusals.{Answer, refused, placed, accepted, two_boards, too_many_results, invalid_score}
use Rattle.laws.specs.Law77.{valid_score}
use Rattle.laws.specs.Law78.{occurrences}
use Rattle.laws.specs.Tally.{Result, scores_of, on_deal, deal_of, Refusal, refusal, ◌or_else◌, deal_refusal}
use Rattle.laws.specs.Tally.{score_refusal, fouled_refusal, boards_refusal, room_refusal}
use Rattle.laws.specs.Tally.{given_refusal, add_refusal, merge_refusal, asked, leaves, Tree, fresh, add, merge, CallOf, last, in_add, in_first, in_second}
use Rattle.laws.specs.Tally.{board_of, list_of, added, OneDeal, SameScores}
use Rattle.laws.proofs.Scores.{is_self}
use Rattle.laws.proofs.Tests.{by_test}
use Rattle.laws.proofs.TallyRules.{or_first, or_second, scores_on, on_deal_lem, none-fouled, given_on_lem}

-- ---- lists of one deal
pub all_on : (d : List ℕ) (l : List ℤ) → OneDeal d (on_deal d l)
unfolding OneDeal
all_on d [] = tt
all_on d (s ∷ l) = (refl, all_on d l)

pub deal_append : (d : List ℕ) (l m : List Result) → OneDeal d l → OneDeal d m → OneDeal d (l ++ m)
unfolding OneDeal
deal_append d [] m o p = p
deal_append d (r ∷ l) m o p = (o.0, deal_append d l m o.1 p)

pub deal-parts : (d : List ℕ) (l m : List Result) → OneDeal d (l ++ m) → OneDeal d l × OneDeal d m
unfolding OneDeal
deal-parts d [] m o = (tt, o)
deal-parts d (r ∷ l) m o = let p = deal-parts d l m o.1 in ((o.0, p.0), p.1)

pub deal-first : (d : List ℕ) (l : List Result) → OneDeal d l → 1 ≤ length l → deal_of l ≡ d
unfolding OneDeal
deal-first d [] o h = absurd (omega arith)
deal-first d (r ∷ l) o h = o.0

-- the same scores on one deal: the same deal is carried
pub same_carried : (d : List ℕ) (l m : List ℤ) → SameScores l m → deal_of (on_deal d l) ≡ deal_of (on_deal d m)
unfolding SameScores occurrences how_many
same_carried d [] [] h = refl
same_carried d [] (s ∷ m) h = absurd (omega (arith, rw (is_self s) at (h s)))
same_carried d (s ∷ l) [] h = absurd (omega (arith, rw (is_self s) at (h s)))
same_carried d (s ∷ l) (r ∷ m) h = refl

-- ---- the lists of a tree whose results are of one deal
left-deal : (d : List ℕ) (n : ℕ) (made given : List Result) → OneDeal d made → OneDeal d given → OneDeal d (leaves n made given)
unfolding leaves
left-deal d zero made given o p = o
left-deal d (suc n) made given o p = p

pub list-deal : (d : List ℕ) (t : Tree) → OneDeal d (added t) → OneDeal d (list_of t)
unfolding added list_of OneDeal
list-deal d (fresh b from to) o = tt
list-deal d (add t r) o =
    let p = deal-parts d (added t) (r ∷ []) o in
    let l = list-deal d t p.0 in
    left-deal d (add_refusal (list_of t) r).number (list_of t ++ (r ∷ [])) (list_of t) (deal_append d (list_of t) (r ∷ []) l p.1) l
list-deal d (merge t u) o =
    let p = deal-parts d (added t) (added u) o in
    let l = list-deal d t p.0 in
    let n = (merge_refusal (board_of t) (list_of t) (board_of u) (list_of u)).number in
    left-deal d n (list_of t ++ list_of u) (list_of t) (deal_append d (list_of t) (list_of u) l (list-deal d u p.1)) l

pub call-deal : (d : List ℕ) (t : Tree) (call : Tree) → CallOf t call → OneDeal d (added t) → OneDeal d (added call)
unfolding added
call-deal d t call last o = o
call-deal d (add t r) call (in_add w) o = call-deal d t call w (deal-parts d (added t) (r ∷ []) o).0
call-deal d (merge t u) call (in_first w) o = call-deal d t call w (deal-parts d (added t) (added u) o).0
call-deal d (merge t u) call (in_second w) o = call-deal d u call w (deal-parts d (added t) (added u) o).1

-- ---- the rules on one deal
module _ (d : List ℕ) (z : (deal_refusal d).number ≡ 0) where
  -- a score that isn't valid comes first
  given_invalid : (l : List Result) (s : ℤ) → valid_score s ≡ false → given_refusal l (record { score = s; deal = d }) ≡ refusal invalid_score
  unfolding given_refusal score_refusal
  given_invalid l s v =
      let k : score_refusal s ≡ refusal invalid_score = rw v in
      let n : (score_refusal s).number ≡ 20 = ap (λ (x : Refusal). x.number) k in
      or_first (score_refusal s) _ (λ q. absurd (omega (arith, n, q))) ∙ k

  -- adding a score on the deal of the list: 20, else 19
  abbrev AddRuled : ℤ → List Result → Type 0
  AddRuled s l = add_refusal l (record { score = s; deal = d })
      ≡ refusal (if not (valid_score s) then invalid_score else if ltb 128 (length l + 1) then too_many_results else accepted)

  add_on : (l : List ℤ) (s : ℤ) → AddRuled s (on_deal d l)
  unfolding add_refusal room_refusal
  add_on l s =
      let r : Result = record { score = s; deal = d } in
      by_test (valid_score s)
      (λ (v : valid_score s ≡ true).
      let g = given_on_lem d l s v z in
      or_second (given_refusal (on_deal d l) r) (room_refusal (length (on_deal d l)) 1) (ap (λ (x : Refusal). x.number) g) ∙ rw v)
      (λ (v : valid_score s ≡ false).
      let g = given_invalid (on_deal d l) s v in
      let n : (given_refusal (on_deal d l) r).number ≡ 20 = ap (λ (x : Refusal). x.number) g in
      or_first (given_refusal (on_deal d l) r) (room_refusal (length (on_deal d l)) 1) (λ q. absurd (omega (arith, n, q))) ∙ g ∙ rw v)

  pub add_ruled : (l : List Result) → OneDeal d l → (s : ℤ) → AddRuled s l
  add_ruled l o s = subst (AddRuled s) (sym (on_deal_lem d l o)) (add_on (scores_of l) s)

  -- asked about a score on the deal: what is answered for it among the scores, where a score that isn't valid is refused with 20 there too
  pub asked_on_lem : {A : Type 0} (question : List ℤ → ℤ → Answer A) → ((l : List ℤ) (s : ℤ) → valid_score s ≡ false → question l s ≡ refused invalid_score)
      → (l : List ℤ) (s : ℤ) → asked question (on_deal d l) (record { score = s; deal = d }) ≡ placed (question l s)
  unfolding asked
  asked_on_lem question first l s =
      by_test (valid_score s)
      (λ (v : valid_score s ≡ true). rw (given_on_lem d l s v z, scores_on d l))
      (λ (v : valid_score s ≡ false). rw (given_invalid (on_deal d l) s v, first l s v))

-- merging lists of one deal: 18, else 19
module _ (d : List ℕ) (b c : ℕ) where
  abbrev MergeRuled : List Result → List Result → Type 0
  MergeRuled l m = merge_refusal b l c m
      ≡ refusal (if not (eqb b c) then two_boards else if ltb 128 (length l + length m) then too_many_results else accepted)

  merge_on : (l m : List ℤ) → MergeRuled (on_deal d l) (on_deal d m)
  unfolding merge_refusal boards_refusal fouled_refusal room_refusal ◌or_else◌
  merge_on l m =
      by_test (eqb b c)
      (λ (q : eqb b c ≡ true). rw (q, none-fouled d l m))
      (λ (q : eqb b c ≡ false). rw q)

  pub merge_ruled : (l m : List Result) → OneDeal d l → OneDeal d m → MergeRuled l m
  merge_ruled l m o p =
      subst (λ (x : List Result). MergeRuled x m) (sym (on_deal_lem d l o))
      (subst (λ (x : List Result). MergeRuled (on_deal d (scores_of l)) x) (sym (on_deal_lem d m p)) (merge_on (scores_of l) (scores_of m)))
