-- The refusals of a call, as the code finds them one by one. Assumes nothing.
use Prim.Native.Nat.{ℕ, ◌≤◌, ◌<◌}
use native.Mathlib.Omega.{arith}
use mathlib.Core.Path.{◌≡◌, refl, sym, ap, ◌∙◌}
use mathlib.Core.Bool.{true, false}
use mathlib.Core.List.{List, [], ◌∷◌}
use borrow.Author.Tests.{eq-eqb, ne_eqb, eqb-true, eqb-false, lt-ltb, le-ltb, ltb-false}
use lib.Dec.{ltb, eqb}
use lib.IntN.{ℤ}
use lib.ListN.{length}
use Rattle.laws.specs.Law77.{valid_score}
use Rattle.laws.specs.Refusals.{Placed, refused_at, given, fouled_board}
use Rattle.laws.specs.Refused.{number, placed_by}
use Rattle.laws.specs.declared.Refused.{Refused}
use Rattle.laws.specs.Tally.{on_deal, Refusal, refusal, refusal_if, ◌or_else◌, score_refusal, fouled_refusal, given_refusal}
use Rattle.laws.specs.Tally.{fresh_refusal}
use Rattle.laws.proofs.Tests.{by_test}
use Rattle.laws.proofs.TallyRules.{or_first, or_second, fouled_on}
use Rattle.laws.proofs.RefusalNumbers.{number_not_none}
use Rattle.std.specs.Prelude as Std
use Rattle.deal.specs.declared.given.Dealt.{Dealt}
use Rattle.tally.specs.Steps.{apart, ruled, given_by, dealt_by}

-- ---- of a board
pub board-zero : (board : ℕ) → board ≡ 0 → fresh_refusal board ≡ 3
unfolding fresh_refusal
board-zero board e = rw (eq-eqb board 0 e)

pub board-over : (board : ℕ) → (board ≡ 0 → ⊥) → 127 < board → fresh_refusal board ≡ 3
unfolding fresh_refusal
board-over board z h = rw (ne_eqb board 0 z, lt-ltb 127 board h)

pub board-good : (board : ℕ) → (board ≡ 0 → ⊥) → board ≤ 127 → fresh_refusal board ≡ 0
unfolding fresh_refusal
board-good board z h = rw (ne_eqb board 0 z, le-ltb 127 board h)

pub board_range : (board : ℕ) → fresh_refusal board ≡ 0 → (1 ≤ board) × (board ≤ 127)
unfolding fresh_refusal
board_range board e =
    by_test (eqb board 0)
    (λ (q : eqb board 0 ≡ true). absurd (omega (arith, rw q at e)))
    (λ (q : eqb board 0 ≡ false).
    by_test (ltb 127 board)
    (λ (r : ltb 127 board ≡ true). absurd (omega (arith, rw (q, r) at e)))
    (λ (r : ltb 127 board ≡ false). let z = eqb-false board 0 q in (omega arith, ltb-false 127 board r)))

-- ---- what the code answers, as a refusal of the rules
pub no_refusal : (r : Refusal) → refusal 0 ≡ r → r.number ≡ 0
no_refusal r e = sym (ap (λ (q : Refusal). q.number) e)

pub some-refusal : (e : Refused) (r : Refusal) → ruled e ≡ r → r.number ≡ 0 → ⊥
some-refusal e r q z = number_not_none e.refusal (ap (λ (q : Refusal). q.number) q ∙ z)

-- a refusal stands before those that come after it
pub refused_first : (e : Refused) (r later : Refusal) → ruled e ≡ r → ruled e ≡ r or_else later
refused_first e r later q = q ∙ sym (or_first r later (some-refusal e r q))

module _ {A : Type 0} where
  pub refused-as : (e : Refused) (r : Refusal) (a : A) → ruled e ≡ r
      → refused_at (number e.refusal) e.place ≡ placed_by r.number r.place a
  refused-as e r a q = rw (← q) (rw (ne_eqb (number e.refusal) 0 (number_not_none e.refusal)))

  pub given-as : (r : Refusal) (a b : A) → r.number ≡ 0 → a ≡ b → given a ≡ placed_by r.number r.place b
  given-as r a b z e = rw (z, e)

  -- and back
  pub as-refused : (e : Refused) (r : Refusal) (a : A) → refused_at (number e.refusal) e.place ≡ placed_by r.number r.place a
      → ruled e ≡ r
  as-refused e r a q =
      by_test (eqb r.number 0)
      (λ (t : eqb r.number 0 ≡ true). never (rw t at q))
      (λ (t : eqb r.number 0 ≡ false). same (rw t at q))
    where
      never : {B : Type 0} {n p : ℕ} → ◌≡◌ {A = Placed A} (refused_at n p) (given a) → B
      never k = absurd (let z : ◌≡◌ {A = ℕ} 0 1 = cc in omega arith)

      same : {n m p k : ℕ} → ◌≡◌ {A = Placed A} (refused_at n p) (refused_at m k) → ◌≡◌ {A = Refusal} (record { number = n; place = p }) (record { number = m; place = k })
      same h = cc

  pub as-given : (r : Refusal) (a b : A) → given a ≡ placed_by r.number r.place b → (r.number ≡ 0) × (a ≡ b)
  as-given r a b q =
      by_test (eqb r.number 0)
      (λ (t : eqb r.number 0 ≡ true). (eqb-true r.number 0 t, same (rw t at q)))
      (λ (t : eqb r.number 0 ≡ false). never (rw t at q))
    where
      never : {B : Type 0} {n p : ℕ} → ◌≡◌ {A = Placed A} (given a) (refused_at n p) → B
      never k = absurd (let z : ◌≡◌ {A = ℕ} 0 1 = cc in omega arith)

      same : ◌≡◌ {A = Placed A} (given a) (given b) → a ≡ b
      same h = cc

-- ---- results of two deals
pub fouled_lists : (results others : ℕ) (d : List ℕ) (l : List ℤ) (e : List ℕ) (m : List ℤ) → results ≡ length l → others ≡ length m
    → refusal_if (apart results others d e) fouled_board ≡ fouled_refusal (on_deal d l) (on_deal e m)
unfolding apart fouled_refusal
fouled_lists results others d l e m n k = rw (n, k, fouled_on d l e m)

-- ---- a score with its deal
module _ (carried : List ℕ) (results : ℕ) (s : ℤ) (deal : List ℕ) where
  -- what they come to is the rules' refusal of a result that is given
  pub given_law : (scores : List ℤ) → results ≡ length scores
      → given_by carried results s deal ≡ given_refusal (on_deal carried scores) (record { score = s; deal = deal })
  unfolding given_by given_refusal
  given_law scores n = rw (fouled_lists results 1 carried scores deal (s ∷ []) n refl)

-- ---- the same with the deal as it was taken
module _ (carried : List ℕ) (results : ℕ) (s : ℤ) where
  passes : valid_score s ≡ true → (later : Refusal) → score_refusal s or_else later ≡ later
  unfolding score_refusal
  passes v later = or_second (score_refusal s) later (rw v)

  abbrev told : Refusal → Placed (List ℕ)
  told r = refused_at r.number r.place

  pub dealt_invalid : (e : Refused) (x : Std.Result Dealt Refused) → ruled e ≡ refusal 20 → valid_score s ≡ false
      → refused_at (number e.refusal) e.place ≡ dealt_by carried results s x
  unfolding dealt_by score_refusal
  dealt_invalid e (Std.Ok d) q v = refused-as e _ d.holders (refused_first e (score_refusal s) _ (q ∙ rw v))
  dealt_invalid e (Std.Err f) q v = ap told (refused_first e (score_refusal s) (ruled f) (q ∙ rw v))

  pub dealt_uneven : (e : Refused) → valid_score s ≡ true → refused_at (number e.refusal) e.place ≡ dealt_by carried results s (Std.Err e)
  unfolding dealt_by
  dealt_uneven e v = ap told (sym (passes v (ruled e)))

  pub dealt_fouls : (e : Refused) (d : Dealt) → valid_score s ≡ true → ruled e ≡ refusal_if (apart results 1 carried d.holders) fouled_board
      → refused_at (number e.refusal) e.place ≡ dealt_by carried results s (Std.Ok d)
  unfolding dealt_by
  dealt_fouls e d v q = refused-as e _ d.holders (q ∙ sym (passes v _))

  pub dealt_given : (d : Dealt) → valid_score s ≡ true → refusal 0 ≡ refusal_if (apart results 1 carried d.holders) fouled_board
      → given d.holders ≡ dealt_by carried results s (Std.Ok d)
  unfolding dealt_by
  dealt_given d v q = given-as _ d.holders d.holders (no_refusal _ (q ∙ sym (passes v _))) refl

  -- a refusal of the score, or of the deal behind it
  pub score_or : (e : Refused) → (score_refusal s or_else ruled e).number ≡ 0 → ⊥
  score_or e z =
      by_test (eqb (score_refusal s).number 0)
      (λ (q : eqb (score_refusal s).number 0 ≡ true).
      number_not_none e.refusal (ap (λ (r : Refusal). r.number) (sym (or_second (score_refusal s) (ruled e) (eqb-true _ 0 q))) ∙ z))
      (λ (q : eqb (score_refusal s).number 0 ≡ false).
      let n = eqb-false (score_refusal s).number 0 q in
      n (ap (λ (r : Refusal). r.number) (sym (or_first (score_refusal s) (ruled e) n)) ∙ z))

pub refused-when : {A : Type 0} (r : Refusal) (a : A) → (r.number ≡ 0 → ⊥) → refused_at r.number r.place ≡ placed_by r.number r.place a
refused-when r a h = rw (ne_eqb r.number 0 h)
