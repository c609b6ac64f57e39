-- Results of two deals put together: the deal that is kept, and what the whole is. Assumes nothing.
use Prim.Native.Nat.{ℕ, zero, suc, ◌≤◌, ◌+◌}
use native.Mathlib.Omega.{arith}
use mathlib.Core.Path.{◌≡◌, refl, sym, ap, ◌∙◌}
use mathlib.Core.Bool.{Bool, true, false, not, ◌&&◌}
use mathlib.Core.List.{List, [], ◌∷◌, ◌++◌}
use borrow.Author.Tests.{ne_eqb, not-false}
use lib.Dec.{eqb}
use lib.IntN.{ℤ}
use lib.ListN.{length, length-append}
use Rattle.laws.specs.Tally.{Result, on_deal, same_deal, fouled, add_refusal, AllValid}
use Rattle.laws.proofs.Tests.{by_test}
use Rattle.laws.proofs.TallyRules.{same-deal, deal_turned, on_append, length_on, fouled_on, none-fouled, given-allowed, add-allowed}
use Rattle.tally.specs.Tallies.{carries}
use Rattle.tally.specs.Steps.{kept_deal}
use Rattle.tally.proofs.Lists.{valid_append}
use Rattle.tally.proofs.Dealing.{none_carried, deal_carried, carried_deal}
use Rattle.tally.proofs.OfLists.{Sound}

-- ---- the deal that is kept
pub kept-none : (d e : List ℕ) → kept_deal 0 d e ≡ e
unfolding kept_deal
kept-none d e = refl

pub kept-some : (n : ℕ) (d e : List ℕ) → kept_deal (suc n) d e ≡ d
unfolding kept_deal
kept-some n d e = rw (ne_eqb (suc n) 0 (λ z. omega arith))

pub kept_assoc : (i j : ℕ) (d e f : List ℕ) → kept_deal (i + j) (kept_deal i d e) f ≡ kept_deal i d (kept_deal j e f)
kept_assoc zero j d e f =
    let z : 0 + j ≡ j = omega arith in
    rw (z, kept-none d e) (sym (kept-none d (kept_deal j e f)))
kept_assoc (suc i) j d e f =
    let z : suc i + j ≡ suc (i + j) = omega arith in
    rw z (kept-some (i + j) (kept_deal (suc i) d e) f ∙ kept-some i d e ∙ sym (kept-some i d (kept_deal j e f)))

-- results of both, and the board is not fouled: one deal
one_deal : (s : ℤ) (l : List ℤ) (r : ℤ) (m : List ℤ) (d e : List ℕ) → fouled (on_deal d (s ∷ l)) (on_deal e (r ∷ m)) ≡ false → d ≡ e
one_deal s l r m d e f =
    let g = sym (fouled_on d (s ∷ l) e (r ∷ m)) ∙ f in
    same-deal d e (not-false _ (rw (ne_eqb (suc (length l)) 0 (λ z. omega arith), ne_eqb (suc (length m)) 0 (λ z. omega arith)) at g))

pub kept_turned : (d : List ℕ) (l : List ℤ) (e : List ℕ) (m : List ℤ) → carries d (length l) ≡ true → carries e (length m) ≡ true
    → fouled (on_deal d l) (on_deal e m) ≡ false → kept_deal (length l) d e ≡ kept_deal (length m) e d
kept_turned d [] e [] c k f = kept-none d e ∙ none_carried e 0 refl k ∙ sym (none_carried d 0 refl c) ∙ sym (kept-none e d)
kept_turned d [] e (r ∷ m) c k f = kept-none d e ∙ sym (kept-some (length m) e d)
kept_turned d (s ∷ l) e [] c k f = kept-some (length l) d e ∙ sym (kept-none e d)
kept_turned d (s ∷ l) e (r ∷ m) c k f = kept-some (length l) d e ∙ one_deal s l r m d e f ∙ sym (kept-some (length m) e d)

-- that the board is not fouled, by the deals
pub not-fouled : (d : List ℕ) (l : List ℤ) (e : List ℕ) (m : List ℤ) → (1 ≤ length l → 1 ≤ length m → d ≡ e) → fouled (on_deal d l) (on_deal e m) ≡ false
not-fouled d [] e m h = fouled_on d [] e m
not-fouled d (s ∷ l) e [] h = fouled_on d (s ∷ l) e [] ∙ and-false (not (eqb (suc (length l)) 0))
  where
    and-false : (b : Bool) → (b && false) ≡ false
    and-false true = refl
    and-false false = refl
not-fouled d (s ∷ l) e (r ∷ m) h =
    ap (λ (x : List ℕ). fouled (on_deal x (s ∷ l)) (on_deal e (r ∷ m))) (h (omega arith) (omega arith)) ∙ none-fouled e (s ∷ l) (r ∷ m)

pub fouled_deals : (d : List ℕ) (l : List ℤ) (e : List ℕ) (m : List ℤ) → fouled (on_deal d l) (on_deal e m) ≡ false → 1 ≤ length l → 1 ≤ length m → d ≡ e
fouled_deals d [] e m f h k = absurd (omega arith)
fouled_deals d (s ∷ l) e [] f h k = absurd (omega arith)
fouled_deals d (s ∷ l) e (r ∷ m) f h k = one_deal s l r m d e f

pub deals_fouled : (d : List ℕ) (l : List ℤ) (e : List ℕ) (m : List ℤ) → 1 ≤ length l → 1 ≤ length m → (d ≡ e → ⊥) → fouled (on_deal d l) (on_deal e m) ≡ true
deals_fouled d l e m h k f =
    by_test (fouled (on_deal d l) (on_deal e m))
    (λ (q : fouled (on_deal d l) (on_deal e m) ≡ true). q)
    (λ (q : fouled (on_deal d l) (on_deal e m) ≡ false). absurd (f (fouled_deals d l e m q h k)))

pub fouled_turned : (d : List ℕ) (l : List ℤ) (e : List ℕ) (m : List ℤ) → fouled (on_deal d l) (on_deal e m) ≡ fouled (on_deal e m) (on_deal d l)
fouled_turned d l e m =
    fouled_on d l e m
    ∙ turned (not (eqb (length l) 0)) (not (eqb (length m) 0)) (not (same_deal d e))
    ∙ ap (λ (b : Bool). not (eqb (length m) 0) && (not (eqb (length l) 0) && not b)) (deal_turned d e)
    ∙ sym (fouled_on e m d l)
  where
    turned : (a b c : Bool) → (a && (b && c)) ≡ (b && (a && c))
    turned true true c = refl
    turned true false c = refl
    turned false true c = refl
    turned false false c = refl

-- ---- one list of one deal
same_rest : (d e : List ℕ) (s : ℤ) (l m : List ℤ) → fouled (on_deal d (s ∷ l)) (on_deal e m) ≡ false → on_deal e m ≡ on_deal d m
same_rest d e s l [] f = refl
same_rest d e s l (r ∷ m) f = ap (λ (x : List ℕ). on_deal x (r ∷ m)) (sym (one_deal s l r m d e f))

pub on_merge : (d : List ℕ) (l : List ℤ) (e : List ℕ) (m : List ℤ) → fouled (on_deal d l) (on_deal e m) ≡ false
    → on_deal d l ++ on_deal e m ≡ on_deal (kept_deal (length l) d e) (l ++ m)
on_merge d [] e m f = ap (λ (x : List ℕ). on_deal x m) (sym (kept-none d e))
on_merge d (s ∷ l) e m f =
    ap (λ (k : List Result). on_deal d (s ∷ l) ++ k) (same_rest d e s l m f)
    ∙ sym (on_append d (s ∷ l) m)
    ∙ ap (λ (x : List ℕ). on_deal x (s ∷ l ++ m)) (sym (kept-some (length l) d e))

pub on_add : (d : List ℕ) (l : List ℤ) (r : Result) → fouled (on_deal d l) (r ∷ []) ≡ false
    → on_deal d l ++ (r ∷ []) ≡ on_deal r.deal (l ++ (r.score ∷ []))
on_add d [] r f = refl
on_add d (s ∷ l) r f =
    let e = one_deal s l r.score [] d r.deal f in
    ap (λ (x : List ℕ). on_deal x (s ∷ l) ++ (r ∷ [])) e ∙ sym (on_append r.deal (s ∷ l) (r.score ∷ []))

-- ---- what is put together is sound
pub sound_add : (b : ℕ) (d : List ℕ) (l : List ℤ) (r : Result) → Sound b d l → (add_refusal (on_deal d l) r).number ≡ 0
    → Sound b r.deal (l ++ (r.score ∷ []))
unfolding AllValid
sound_add b d l r w z =
    let a = add-allowed (on_deal d l) r z in
    let g = given-allowed (on_deal d l) r a.0 in
    let n : length (l ++ (r.score ∷ [])) ≡ length l + 1 = length-append l (r.score ∷ []) in
    record {
      board = w.board;
      valid = valid_append l (r.score ∷ []) w.valid (g.0, tt);
      room = omega (arith, n, a.1, length_on d l);
      deal = carried_deal r.deal (length (l ++ (r.score ∷ []))) (λ y. omega (arith, n)) g.1;
    }

pub sound_merge : (b : ℕ) (d : List ℕ) (l : List ℤ) (e : List ℕ) (m : List ℤ) → Sound b d l → Sound b e m → length l + length m ≤ 128
    → Sound b (kept_deal (length l) d e) (l ++ m)
sound_merge b d [] e m v w room =
    record { board = w.board; valid = w.valid; room = w.room; deal = ap (λ (x : List ℕ). carries x (length m)) (kept-none d e) ∙ w.deal }
sound_merge b d (s ∷ l) e m v w room =
    let n : length (s ∷ l ++ m) ≡ length (s ∷ l) + length m = length-append (s ∷ l) m in
    record {
      board = v.board;
      valid = valid_append (s ∷ l) m v.valid w.valid;
      room = omega (arith, n);
      deal =
          ap (λ (x : List ℕ). carries x (length (s ∷ l ++ m))) (kept-some (length l) d e)
          ∙ carried_deal d (length (s ∷ l ++ m)) (λ y. omega (arith, n)) (deal_carried d (length (s ∷ l)) (λ y. omega arith) v.deal);
    }
