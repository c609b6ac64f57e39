-- Two deals compared card by card, and what a tally carries. Assumes nothing.
use Rattle.std.specs.Prelude.{if◌then◌else◌}
use Prim.Native.Nat.{ℕ, suc, ◌≤◌, ◌<◌, ◌+◌}
use native.Mathlib.Omega.{arith}
use native.Mathlib.Numerals.{add-one}
use mathlib.Core.Path.{◌≡◌, refl, sym, ap, ap₂, ◌∙◌}
use mathlib.Core.Bool.{Bool, true, false, not, ◌&&◌}
use mathlib.Core.List.{List, [], ◌∷◌, ◌++◌}
use borrow.Author.Tests.{eq-eqb, ne_eqb, eqb-true, not-false}
use lib.Dec.{eqb}
use lib.IntN.{ℤ}
use lib.ListN.{length, get_or, drop, drop_of_length-le}
use lib.Seq.{drop-cons}
use Rattle.laws.specs.Contents.{take_deal}
use Rattle.laws.specs.Reading.{Reading, Reading.refused, Reading.found}
use Rattle.std.specs.Prelude as Std
use Rattle.std.specs.Result.{is_ok}
use Rattle.laws.specs.Refusals.{Placed, refused_at, given, fouled_board}
use Rattle.laws.specs.Refused.{placed_of}
use Rattle.laws.specs.declared.Refused.{Refused}
use Rattle.laws.proofs.RefusalNumbers.{number_not_none}
use Rattle.laws.specs.Tally.{Result, scores_of, on_deal, same_deal, fouled, no_deal, deal_of, refusal, refusal_if, refusal_in, deal_refusal}
use Rattle.laws.proofs.TallyRules.{same-deal, deal_self, scores_on, scores_append, fouled_on}
use Rattle.deal.specs.declared.given.Dealt.{Dealt}
use Rattle.deal.specs.Taking.{taken_by}
use Rattle.tally.specs.Tallies.{tally_for, tally_of, carries}
use Rattle.tally.specs.Steps.{apart, kept_deal, ruled}

-- two deals from a card on
abbrev pub same_from : List ℕ → List ℕ → ℕ → Bool
same_from a b i = same_deal (drop i a) (drop i b)

and-false : (b : Bool) → (b && false) ≡ false
and-false true = refl
and-false false = refl

count_turn : (x z : Bool) (o p : ℕ) → p ≡ (if x then 0 else 1) → (eqb o 0 && (x && z)) ≡ (eqb (o + p) 0 && z)
count_turn true z o p e = let k : o + p ≡ o = omega arith in rw k
count_turn false z o p e = rw (ne_eqb (o + p) 0 (λ k. omega arith)) (and-false (eqb o 0))

module _ (a b : List ℕ) (i p : ℕ) (ha : i < length a) (hb : i < length b) (e : p ≡ (if eqb (get_or a i 0) (get_or b i 0) then 0 else 1)) where
  pub one-card : p ≤ 1
  one-card = low (eqb (get_or a i 0) (get_or b i 0)) e
    where
      low : (x : Bool) → p ≡ (if x then 0 else 1) → p ≤ 1
      low true k = omega arith
      low false k = omega arith

  -- a count of cards whose holders differ stays 0 exactly where those of a card are the same
  pub card_turn : (o : ℕ) → (eqb o 0 && same_from a b i) ≡ (eqb (o + p) 0 && same_from a b (i + 1))
  unfolding same_deal
  card_turn o =
      rw (add-one i, drop-cons a i 0 ha, drop-cons b i 0 hb) (count_turn (eqb (get_or a i 0) (get_or b i 0)) (same_from a b (suc i)) o p e)

pub all-cards : (a b : List ℕ) (i : ℕ) → length a ≤ i → length b ≤ i → same_from a b i ≡ true
unfolding same_deal
all-cards a b i ha hb = rw (drop_of_length-le a ha, drop_of_length-le b hb)

-- ---- results of two deals, by the tests
module _ (n m : ℕ) (d e : List ℕ) where
  pub first-none : n ≡ 0 → refusal 0 ≡ refusal_if (apart n m d e) fouled_board
  unfolding apart
  first-none z = rw (eq-eqb n 0 z)

  pub second_none : m ≡ 0 → refusal 0 ≡ refusal_if (apart n m d e) fouled_board
  unfolding apart
  second_none z = rw (eq-eqb m 0 z, and-false (not (eqb n 0)))

  pub both_same : same_deal d e ≡ true → refusal 0 ≡ refusal_if (apart n m d e) fouled_board
  unfolding apart
  both_same q = rw (q, and-false (not (eqb m 0)), and-false (not (eqb n 0)))

  pub both_differ : (n ≡ 0 → ⊥) → (m ≡ 0 → ⊥) → same_deal d e ≡ false → refusal fouled_board ≡ refusal_if (apart n m d e) fouled_board
  unfolding apart
  both_differ y z q = rw (ne_eqb n 0 y, ne_eqb m 0 z, q)

-- ---- a deal as it is taken: the refusal of the Laws, or its holders
same-number : {n m p q : ℕ} → ◌≡◌ {A = Placed Dealt} (refused_at n p) (refused_at m q) → n ≡ m
same-number e = cc

same-place : {n m p q : ℕ} → ◌≡◌ {A = Placed Dealt} (refused_at n p) (refused_at m q) → p ≡ q
same-place e = cc

same-dealt : {a b : Dealt} → ◌≡◌ {A = Placed Dealt} (given a) (given b) → a ≡ b
same-dealt e = cc

never-dealt : {A : Type 0} {a : Dealt} {n p : ℕ} → ◌≡◌ {A = Placed Dealt} (given a) (refused_at n p) → A
never-dealt e = absurd (let k : ◌≡◌ {A = ℕ} 0 1 = cc in omega arith)

dealt_ok : (d : List ℕ) (x : Std.Result Dealt Refused) (r : Reading (Unit {0})) → placed_of x ≡ taken_by d r → is_ok x ≡ eqb (refusal_in r).number 0
dealt_ok d (Std.Ok a) (refused m place) e = never-dealt e
dealt_ok d (Std.Ok a) (found u at) e = refl
dealt_ok d (Std.Err f) (refused m place) e = sym (ne_eqb m 0 (λ z. number_not_none f.refusal (same-number e ∙ z)))
dealt_ok d (Std.Err f) (found u at) e = never-dealt (sym e)

refused-dealt : (d : List ℕ) (e : Refused) (r : Reading (Unit {0})) → placed_of (Std.Err e) ≡ taken_by d r
    → ruled e ≡ refusal_in r
refused-dealt d e (refused m place) q = ap₂ (λ (n p : ℕ). record { number = n; place = p }) (same-number q) (same-place q)
refused-dealt d e (found u at) q = never-dealt (sym q)

pub deal-refused : (d : List ℕ) (e : Refused) → placed_of (Std.Err e) ≡ taken_by d (take_deal d [] 0)
    → ruled e ≡ deal_refusal d
unfolding deal_refusal
deal-refused d e q = refused-dealt d e (take_deal d [] 0) q

found-dealt : (d : List ℕ) (x : Dealt) (r : Reading (Unit {0})) → placed_of (Std.Ok x) ≡ taken_by d r → ((refusal_in r).number ≡ 0) × (x.holders ≡ d)
found-dealt d x (refused m place) q = never-dealt q
found-dealt d x (found u at) q = (refl, ap (λ (y : Dealt). y.holders) (same-dealt q))

pub deal-found : (d : List ℕ) (x : Dealt) → placed_of (Std.Ok x) ≡ taken_by d (take_deal d [] 0) → ((deal_refusal d).number ≡ 0) × (x.holders ≡ d)
unfolding deal_refusal
deal-found d x q = found-dealt d x (take_deal d [] 0) q

-- ---- what a tally carries
module _ (d : List ℕ) (n : ℕ) where
  pub carries-none : n ≡ 0 → same_deal d no_deal ≡ carries d n
  unfolding carries
  carries-none e = rw (eq-eqb n 0 e)

  pub carries-deal : (n ≡ 0 → ⊥) → (x : Std.Result Dealt Refused) → placed_of x ≡ taken_by d (take_deal d [] 0) → is_ok x ≡ carries d n
  unfolding carries deal_refusal
  carries-deal z x e = rw (ne_eqb n 0 z) (dealt_ok d x (take_deal d [] 0) e)

  -- without a result none
  pub none_carried : n ≡ 0 → carries d n ≡ true → d ≡ no_deal
  none_carried e c = same-deal d no_deal (carries-none e ∙ c)

  -- with one, a deal
  pub deal_carried : (n ≡ 0 → ⊥) → carries d n ≡ true → (deal_refusal d).number ≡ 0
  unfolding carries
  deal_carried z c = eqb-true (deal_refusal d).number 0 (rw (ne_eqb n 0 z) at c)

  pub carried_deal : (n ≡ 0 → ⊥) → (deal_refusal d).number ≡ 0 → carries d n ≡ true
  unfolding carries
  carried_deal z e = rw (ne_eqb n 0 z, e)

pub carried_none : carries no_deal 0 ≡ true
carried_none = sym (carries-none no_deal 0 refl) ∙ deal_self no_deal

-- ---- the deal of a list of results
pub deal_on_lem : (d : List ℕ) (l : List ℤ) → carries d (length l) ≡ true → deal_of (on_deal d l) ≡ d
deal_on_lem d [] c = sym (none_carried d 0 refl c)
deal_on_lem d (s ∷ l) c = refl

-- a result more that does not foul the board is of the list's deal
deal-add : (d : List ℕ) (l : List ℤ) (r : Result) → fouled (on_deal d l) (r ∷ []) ≡ false → deal_of (on_deal d l ++ (r ∷ [])) ≡ r.deal
deal-add d [] r f = refl
deal-add d (s ∷ l) r f =
    let g = sym (fouled_on d (s ∷ l) r.deal (r.score ∷ [])) ∙ f in
    same-deal d r.deal (not-false _ (rw (ne_eqb (suc (length l)) 0 (λ z. omega arith)) at g))

deal-merge : (d : List ℕ) (l : List ℤ) (e : List ℕ) (m : List ℤ) → carries e (length m) ≡ true
    → deal_of (on_deal d l ++ on_deal e m) ≡ kept_deal (length l) d e
unfolding kept_deal
deal-merge d [] e m c = deal_on_lem e m c
deal-merge d (s ∷ l) e m c = rw (ne_eqb (suc (length l)) 0 (λ z. omega arith))

-- ---- the tally of a list of results
module _ (b : ℕ) where
  tally_by : (results : List Result) (d : List ℕ) (l : List ℤ) → deal_of results ≡ d → scores_of results ≡ l → tally_of b results ≡ tally_for b d l
  unfolding tally_of
  tally_by results d l e f = ap₂ (tally_for b) e f

  pub tally_on : (d : List ℕ) (l : List ℤ) → carries d (length l) ≡ true → tally_of b (on_deal d l) ≡ tally_for b d l
  tally_on d l c = tally_by (on_deal d l) d l (deal_on_lem d l c) (scores_on d l)

  pub tally-add : (d : List ℕ) (l : List ℤ) (r : Result) → fouled (on_deal d l) (r ∷ []) ≡ false
      → tally_of b (on_deal d l ++ (r ∷ [])) ≡ tally_for b r.deal (l ++ (r.score ∷ []))
  tally-add d l r f =
      tally_by (on_deal d l ++ (r ∷ [])) r.deal (l ++ (r.score ∷ [])) (deal-add d l r f)
      (scores_append (on_deal d l) (r ∷ []) ∙ ap (λ (k : List ℤ). k ++ (r.score ∷ [])) (scores_on d l))

  pub tally-merge : (d : List ℕ) (l : List ℤ) (e : List ℕ) (m : List ℤ) → carries e (length m) ≡ true
      → tally_of b (on_deal d l ++ on_deal e m) ≡ tally_for b (kept_deal (length l) d e) (l ++ m)
  tally-merge d l e m c =
      tally_by (on_deal d l ++ on_deal e m) (kept_deal (length l) d e) (l ++ m) (deal-merge d l e m c)
      (scores_append (on_deal d l) (on_deal e m) ∙ ap₂ (λ (j k : List ℤ). j ++ k) (scores_on d l) (scores_on e m))
