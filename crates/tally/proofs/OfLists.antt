-- The calls at the tallies of scores on one deal: each does to the tally what the rules of docs/RULES.md for trees do to the list. Assumes nothing.
use Prim.Native.Nat.{ℕ, zero, suc, ◌≤◌}
use native.Mathlib.Omega.{arith}
use mathlib.Core.Path.{◌≡◌, refl, sym, ap, ◌∙◌}
use mathlib.Core.Bool.{Bool, true}
use mathlib.Core.List.{List, [], ◌∷◌, ◌++◌}
use lib.IntN.{ℤ}
use lib.ListN.{length}
use Rattle.laws.specs.Law78.{same_score, occurrences, matchpoints}
use Rattle.laws.specs.Refusals.{Answer}
use Rattle.laws.specs.Tally.{Result, on_deal, Refusal, leaves, fouled_refusal, given_refusal, fresh_refusal, add_refusal, merge_refusal, asked}
use Rattle.laws.specs.Tally.{AllValid, SameScores}
use Rattle.laws.proofs.Counts.{many_append}
use Rattle.laws.proofs.TallyRules.{scores_on, length_on, fouled_on, given-allowed, add-allowed}
use Rattle.laws.proofs.Comparisons.{same_points}
use Rattle.tally.specs.declared.Tally.{Tally}
use Rattle.tally.specs.Tallies.{Tallied, tally_with, tally_for, tally_of, entries_in, scores_in, carries, well_formed}
use Rattle.tally.specs.Tallies.{refused_with, accepting, answer_of, add_of, merge_of}
use Rattle.tally.specs.Points.{matchpoints_of}
use Rattle.tally.specs.Steps.{kept_deal}
use Rattle.tally.proofs.Ordered.{in_entries}
use Rattle.tally.proofs.Lists.{in_expand, in_list, same_entries, valid_append}
use Rattle.tally.proofs.Formed.{formed, entries-tally, formed_tally, same_tally, length-tally, valid-scores}
use Rattle.tally.proofs.Dealing.{tally-add, tally-merge}

-- a board from 1 to 127, at most 128 valid scores, and the deal that they carry, or none
pub record Sound (b : ℕ) (d : List ℕ) (l : List ℤ) : Type 0 where
  pub board : fresh_refusal b ≡ 0
  pub valid : AllValid l
  pub room : length l ≤ 128
  pub deal : carries d (length l) ≡ true

-- lists of the same valid scores have one tally
pub one-tally : (b : ℕ) (d : List ℕ) (l m : List ℤ) → AllValid l → AllValid m → SameScores l m → tally_for b d l ≡ tally_for b d m
unfolding tally_for
one-tally b d l m v w h = ap (tally_with b d) (same_entries l m v w h)

pub same_append : (l l' m m' : List ℤ) → SameScores l l' → SameScores m m' → SameScores (l ++ m) (l' ++ m')
unfolding SameScores occurrences
same_append l l' m m' h k s = omega (arith, many_append (same_score s) l m, many_append (same_score s) l' m', h s, k s)

pub same_turned : (l m : List ℤ) → SameScores (l ++ m) (m ++ l)
unfolding SameScores occurrences
same_turned l m s = omega (arith, many_append (same_score s) l m, many_append (same_score s) m l)

pub same_refl : (l : List ℤ) → SameScores l l
unfolding SameScores
same_refl l s = refl

-- an answer's tally matters only where it is accepted
pub answer_by : (r : Refusal) (x y : Tally) → (r.number ≡ 0 → x ≡ y) → answer_of r x ≡ answer_of r y
unfolding answer_of leaves
answer_by r x y h = left_by_lem r.number h
  where
    left_by_lem : (n : ℕ) → (n ≡ 0 → x ≡ y) → leaves n (accepting x) (refused_with r) ≡ leaves n (accepting y) (refused_with r)
    left_by_lem zero h = ap accepting (h refl)
    left_by_lem (suc n) h = refl

-- an answer's number, its place and its tally; and what a call leaves by its answer
module _ (f : Refusal) (made : Tally) where
  pub answer-number : (answer_of f made).refusal ≡ f.number
  unfolding answer_of leaves
  answer-number = go f.number (refused_with f) refl
    where
      go : (n : ℕ) (other : Tallied) → other.refusal ≡ n → (leaves n (accepting made) other).refusal ≡ n
      go zero other e = refl
      go (suc n) other e = e

  pub answer-place : (f.number ≡ 0 → f.place ≡ 0) → (answer_of f made).place ≡ f.place
  unfolding answer_of leaves
  answer-place clear = go f.number clear
    where
      go : (n : ℕ) → (n ≡ 0 → f.place ≡ 0) → (leaves n (accepting made) (refused_with f)).place ≡ f.place
      go zero c = sym (c refl)
      go (suc n) c = refl

  pub answer_made : f.number ≡ 0 → (answer_of f made).tally ≡ made
  unfolding answer_of leaves
  answer_made z = rw z

  pub left-answer : (given : Tally) → leaves (answer_of f made).refusal (answer_of f made).tally given ≡ leaves f.number made given
  unfolding answer_of leaves
  left-answer given = go f.number f.number refl refl
    where
      go : (n k : ℕ) → f.number ≡ k → n ≡ k
          → leaves (leaves n (accepting made) (refused_with f)).refusal (leaves n (accepting made) (refused_with f)).tally given ≡ leaves n made given
      go zero k p q = refl
      go (suc n) k p q = rw (p ∙ sym q)

  pub answer-left : (given : Tally) → answer_of f made ≡ answer_of f (leaves f.number made given)
  unfolding answer_of leaves
  answer-left given = go f.number
    where
      go : (n : ℕ) → leaves n (accepting made) (refused_with f) ≡ leaves n (accepting (leaves n made given)) (refused_with f)
      go zero = refl
      go (suc n) = refl

-- on one deal the refusals go by lengths
module _ (d : List ℕ) (l m : List ℤ) (e : length l ≡ length m) where
  given-length : (r : Result) → given_refusal (on_deal d l) r ≡ given_refusal (on_deal d m) r
  unfolding given_refusal fouled_refusal
  given-length r = rw (fouled_on d l r.deal (r.score ∷ []), fouled_on d m r.deal (r.score ∷ []), e)

  add-length : (r : Result) → add_refusal (on_deal d l) r ≡ add_refusal (on_deal d m) r
  unfolding add_refusal
  add-length r = rw (given-length r, length_on d l, length_on d m, e)

  -- what is asked goes by the given refusal, and then by the scores
  pub asked-length : {A : Type 0} (question : List ℤ → ℤ → Answer A) (r : Result) → question l r.score ≡ question m r.score
      → asked question (on_deal d l) r ≡ asked question (on_deal d m) r
  unfolding asked
  asked-length question r q = rw (given-length r, scores_on d l, scores_on d m, q)

merge-length : (b c : ℕ) (d e : List ℕ) (l l' m m' : List ℤ) → length l ≡ length l' → length m ≡ length m'
    → merge_refusal b (on_deal d l) c (on_deal e m) ≡ merge_refusal b (on_deal d l') c (on_deal e m')
unfolding merge_refusal fouled_refusal
merge-length b c d e l l' m m' p q =
    rw (fouled_on d l e m, fouled_on d l' e m', length_on d l, length_on e m, length_on d l', length_on e m', p, q)

pub tally-board : (b : ℕ) (d : List ℕ) (l : List ℤ) → (tally_for b d l).board ≡ b
unfolding tally_for tally_with
tally-board b d l = refl

pub tally-deal : (b : ℕ) (d : List ℕ) (l : List ℤ) → (tally_for b d l).deal ≡ d
unfolding tally_for tally_with
tally-deal b d l = refl

module _ (b : ℕ) (d : List ℕ) (l : List ℤ) (w : Sound b d l) where
  pub is-well : well_formed (tally_for b d l) ≡ true
  is-well = formed_tally b d l w.valid w.room w.board w.deal

  own_valid : AllValid (scores_in (tally_for b d l))
  own_valid = valid-scores (tally_for b d l) (formed (tally_for b d l) is-well)

  pub own_length : length (scores_in (tally_for b d l)) ≡ length l
  own_length = length-tally b d l w.valid w.room

  own_same : SameScores (scores_in (tally_for b d l)) l
  own_same = same_tally b d l w.valid w.room

  -- a result added goes last
  pub add-list : (r : Result) → add_of (tally_for b d l) r ≡ answer_of (add_refusal (on_deal d l) r) (tally_for b r.deal (l ++ (r.score ∷ [])))
  unfolding add_of AllValid tally_for tally_with
  add-list r =
      let own = scores_in (tally_for b d l) in
      let s = r.score in
      rw (is-well, add-length d own l own_length r)
      (answer_by (add_refusal (on_deal d l) r) (tally_of b (on_deal d own ++ (r ∷ []))) (tally_for b r.deal (l ++ (s ∷ [])))
      (λ (e : (add_refusal (on_deal d l) r).number ≡ 0).
      let k : (add_refusal (on_deal d own) r).number ≡ 0 = rw (add-length d own l own_length r) e in
      let g = given-allowed (on_deal d own) r (add-allowed (on_deal d own) r k).0 in
      let one : AllValid (s ∷ []) = (g.0, tt) in
      tally-add b d own r g.2
      ∙ one-tally b r.deal (own ++ (s ∷ [])) (l ++ (s ∷ [])) (valid_append own (s ∷ []) own_valid one) (valid_append l (s ∷ []) w.valid one)
      (same_append own l (s ∷ []) (s ∷ []) own_same (same_refl (s ∷ [])))))

  own_points : (s : ℤ) → matchpoints (scores_in (tally_for b d l)) s ≡ matchpoints l s
  unfolding scores_in
  own_points s =
      same_points (scores_in (tally_for b d l)) l own_length
      (λ (test : ℤ → Bool). in_expand test (entries_in (tally_for b d l)) ∙ ap (in_entries test) (entries-tally b d l w.valid w.room) ∙ in_list test l) s

  pub points-list : (r : Result) → matchpoints_of (tally_for b d l) r ≡ asked matchpoints (on_deal d l) r
  unfolding matchpoints_of tally_for tally_with
  points-list r = rw is-well (asked-length d (scores_in (tally_for b d l)) l own_length matchpoints r (own_points r.score))

-- the second list goes after the first
pub merge-list : (b : ℕ) (d : List ℕ) (l : List ℤ) (c : ℕ) (e : List ℕ) (m : List ℤ) → Sound b d l → Sound c e m
    → merge_of (tally_for b d l) (tally_for c e m)
    ≡ answer_of (merge_refusal b (on_deal d l) c (on_deal e m)) (tally_for b (kept_deal (length l) d e) (l ++ m))
unfolding merge_of tally_for tally_with
merge-list b d l c e m v w =
    let own = scores_in (tally_for b d l) in
    let own' = scores_in (tally_for c e m) in
    let n = own_length b d l v in
    let n' = own_length c e m w in
    let kept = kept_deal (length l) d e in
    rw (is-well b d l v, is-well c e m w, merge-length b c d e own l own' m n n')
    (answer_by (merge_refusal b (on_deal d l) c (on_deal e m)) (tally_of b (on_deal d own ++ on_deal e own')) (tally_for b kept (l ++ m))
    (λ z. tally-merge b d own e own' (ap (carries e) n' ∙ w.deal)
    ∙ ap (λ (k : ℕ). tally_for b (kept_deal k d e) (own ++ own')) n
    ∙ one-tally b kept (own ++ own') (l ++ m) (valid_append own own' (own_valid b d l v) (own_valid c e m w)) (valid_append l m v.valid w.valid)
    (same_append own l own' m (own_same b d l v) (own_same c e m w))))
