-- A tally's places from one of them on: one turn of the loops that read them. Assumes nothing.
use Rattle.std.specs.Prelude.{if◌then◌else◌}
use Prim.Native.Nat.{ℕ, suc, ◌≤◌, ◌<◌, ◌+◌, ◌-◌}
use native.Mathlib.Omega.{arith}
use native.Mathlib.Numerals.{add-one}
use mathlib.Core.Path.{◌≡◌, refl, sym, ap, ◌∙◌}
use mathlib.Core.Bool.{Bool, true, false, not, ◌&&◌}
use mathlib.Core.List.{List, [], ◌∷◌}
use borrow.Author.Tests.{eq-eqb, ne_eqb, eqb-true, eqb-false}
use lib.Dec.{leb, eqb}
use lib.IntN.{ℤ, pos}
use lib.ListN.{length, get_or, drop, drop_of_length-le}
use lib.Seq.{drop-cons}
use lib.Signed.{lt_z}
use mir.Syntax.{w16}
use mir.Val.{SFits, to_z, of_z, bool_byte}
use mir.Facts.{to_z-of_z}
use Rattle.laws.specs.Law77.{valid_score}
use Rattle.laws.specs.Law78.{same_score}
use Rattle.laws.specs.Tally.{fresh_refusal}
use Rattle.laws.proofs.Tests.{by_test}
use Rattle.laws.proofs.Scores.{true_same, ne_same}
use Rattle.tally.proofs.Refusing.{board-good}
use Rattle.tally.specs.declared.Entry.{Entry}
use Rattle.tally.specs.declared.Tally.{Tally}
use Rattle.tally.specs.Entries.{entry, entries}
use Rattle.tally.specs.Tallies.{all_zero, in_order, ceiling, in_places}

-- ---- scores as their codes hold them
pub same_of : (a b : ℤ) → SFits w16 a → SFits w16 b → of_z w16 a ≡ of_z w16 b → a ≡ b
same_of a b fa fb e = sym (to_z-of_z fa) ∙ ap (to_z w16) e ∙ to_z-of_z fb

module _ (ss : List ℤ) (cs : List ℕ) where
  -- the tests and the entries from place i on
  abbrev pub zeros_at : ℕ → Bool
  zeros_at i = all_zero (drop i ss) (drop i cs)

  abbrev pub order_at : ℤ → ℕ → ℕ → Bool
  order_at top room i = in_order top room (drop i ss) (drop i cs)

  abbrev pub entries_at : ℕ → List Entry
  entries_at i = entries (drop i ss) (drop i cs)

module _ (ss : List ℤ) (cs : List ℕ) (i : ℕ) where
  pub zeros-step : i < length ss → i < length cs → zeros_at ss cs i ≡ same_score (get_or ss i (pos 0)) (pos 0) && (eqb (get_or cs i 0) 0 && zeros_at ss cs (suc i))
  unfolding all_zero
  zeros-step hs hc = rw (drop-cons ss i (pos 0), drop-cons cs i 0)

  pub zeros_end : length ss ≤ i → zeros_at ss cs i ≡ true
  unfolding all_zero
  zeros_end h = rw (drop_of_length-le ss h)

  pub order-used : (top : ℤ) (room : ℕ) → i < length ss → i < length cs → (get_or cs i 0 ≡ 0 → ⊥)
      → order_at ss cs top room i
      ≡ valid_score (get_or ss i (pos 0))
      && (lt_z (get_or ss i (pos 0)) top && (leb (get_or cs i 0) room && order_at ss cs (get_or ss i (pos 0)) (room - get_or cs i 0) (suc i)))
  unfolding in_order
  order-used top room hs hc u = rw (drop-cons ss i (pos 0), drop-cons cs i 0, ne_eqb (get_or cs i 0) 0 u)

  pub order-unused : (top : ℤ) (room : ℕ) → i < length ss → i < length cs → get_or cs i 0 ≡ 0 → order_at ss cs top room i ≡ zeros_at ss cs i
  unfolding in_order
  order-unused top room hs hc u = rw (drop-cons ss i (pos 0), drop-cons cs i 0, eq-eqb (get_or cs i 0) 0 u)

  pub order_end : (top : ℤ) (room : ℕ) → length ss ≤ i → order_at ss cs top room i ≡ true
  unfolding in_order
  order_end top room h = rw (drop_of_length-le ss h)

  pub entries-used : i < length ss → i < length cs → (get_or cs i 0 ≡ 0 → ⊥)
      → entries_at ss cs i ≡ entry (get_or ss i (pos 0)) (get_or cs i 0) ∷ entries_at ss cs (suc i)
  unfolding entries
  entries-used hs hc u = rw (drop-cons ss i (pos 0), drop-cons cs i 0, ne_eqb (get_or cs i 0) 0 u)

  pub entries-unused : i < length ss → i < length cs → get_or cs i 0 ≡ 0 → entries_at ss cs i ≡ []
  unfolding entries
  entries-unused hs hc u = rw (drop-cons ss i (pos 0), drop-cons cs i 0, eq-eqb (get_or cs i 0) 0 u)

  pub entries_end : length ss ≤ i → entries_at ss cs i ≡ []
  unfolding entries
  entries_end h = rw (drop_of_length-le ss h)

-- ---- what is not zero, counted
pub one_if_not : (b : Bool) (p : ℕ) → p ≡ bool_byte (not b) → p ≡ (if b then 0 else 1)
one_if_not true p e = e
one_if_not false p e = e

pub one_if_score : (x : ℤ) (p : ℕ) → SFits w16 x → p ≡ bool_byte (not (eqb (of_z w16 x) 0)) → p ≡ (if same_score x (pos 0) then 0 else 1)
one_if_score x p f e =
    by_test (eqb (of_z w16 x) 0)
    (λ (q : eqb (of_z w16 x) 0 ≡ true).
    rw (true_same x (pos 0) (same_of x (pos 0) f (record { sfits = omega arith }) (eqb-true (of_z w16 x) 0 q))) (rw q at e))
    (λ (q : eqb (of_z w16 x) 0 ≡ false). rw (ne_same x (pos 0) (λ z. eqb-false (of_z w16 x) 0 q (ap (of_z w16) z))) (rw q at e))

some-low : (x : Bool) (p : ℕ) → p ≡ (if x then 0 else 1) → p ≤ 1
some-low true p e = omega arith
some-low false p e = omega arith

pub and-true : (x : Bool) → (x && true) ≡ x
and-true true = refl
and-true false = refl

and-false : (x : Bool) → (x && false) ≡ false
and-false true = refl
and-false false = refl

-- a count of places that are not zero stays 0 exactly where a place is zero
zero_turn : (x y z : Bool) (o p q : ℕ) → p ≡ (if x then 0 else 1) → q ≡ (if y then 0 else 1) → (eqb o 0 && (x && (y && z))) ≡ (eqb (o + (p + q)) 0 && z)
zero_turn true true z o p q ep eq = let e : o + (p + q) ≡ o = omega arith in rw e
zero_turn true false z o p q ep eq = rw (ne_eqb (o + (p + q)) 0 (λ k. omega arith)) (and-false (eqb o 0))
zero_turn false y z o p q ep eq = rw (ne_eqb (o + (p + q)) 0 (λ k. omega arith)) (and-false (eqb o 0))

module _ (ss : List ℤ) (cs : List ℕ) (i : ℕ) (hs : i < length ss) (hc : i < length cs) (p q : ℕ)
    (ep : p ≡ (if same_score (get_or ss i (pos 0)) (pos 0) then 0 else 1)) (eq : q ≡ (if eqb (get_or cs i 0) 0 then 0 else 1)) where
  pub low : (p ≤ 1) × (q ≤ 1)
  low = (some-low (same_score (get_or ss i (pos 0)) (pos 0)) p ep, some-low (eqb (get_or cs i 0) 0) q eq)

  pub zeros_turn : (o : ℕ) → (eqb o 0 && zeros_at ss cs i) ≡ (eqb (o + (p + q)) 0 && zeros_at ss cs (i + 1))
  zeros_turn o =
      rw (zeros-step ss cs i hs hc, add-one i) (zero_turn (same_score (get_or ss i (pos 0)) (pos 0)) (eqb (get_or cs i 0) 0) (zeros_at ss cs (suc i)) o p q ep eq)

-- ---- the whole test
module _ (t : Tally) where
  pub bad_board : fresh_refusal t.board ≡ 3 → false ≡ in_places t
  unfolding in_places
  bad_board e = rw e

  pub good-board : fresh_refusal t.board ≡ 0 → length t.scores ≡ 128 → length t.counts ≡ 128
      → in_places t ≡ order_at t.scores t.counts ceiling 128 0
  unfolding in_places
  good-board e hs hc = rw (e, hs, hc)

  pub in-order : (t.board ≡ 0 → ⊥) → t.board ≤ 127 → length t.scores ≡ 128 → length t.counts ≡ 128
      → in_places t ≡ order_at t.scores t.counts ceiling 128 0
  in-order z h hs hc = good-board (board-good t.board z h) hs hc
