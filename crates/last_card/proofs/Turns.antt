-- A loop that reads codes, each refused by a rule on the history before it: one kit for calls and cards.
-- What the reading comes to from a turn on is what it comes to in all. Assumes nothing.
use Prim.Native.Nat.{ℕ, suc, ◌≤◌, ◌<◌, ◌+◌, ◌-◌, ◌*◌}
use native.Mathlib.Nat.{mul-zero, add-zero, mul-suc}
use native.Mathlib.Numerals.{add-one}
use native.Mathlib.Omega.{arith}
use mathlib.Core.Path.{◌≡◌, refl, sym, ap, ◌∙◌}
use mathlib.Core.List.{List, [], ◌∷◌}
use borrow.Author.Tests.{eq-eqb, ne_eqb}
use lib.ListN.{length}
use Rattle.laws.proofs.Histories.{Clean}
use Rattle.laws.specs.Reading.{Reading, Reading.refused, Reading.found, read, refuse, read_each}

-- after i of n codes, at the bit `here`: a is the state of their history
pub record Reached (w : ℕ) (place rule : List ℕ → ℕ → ℕ) (bytes : List ℕ) (at n : ℕ) {A : Type 0} (state : List ℕ → A) (a : A)
    (here i : ℕ) : Type 0 where
  pub history : List ℕ
  pub position : a ≡ state history
  pub many : length history ≡ i
  pub clean : Clean rule history
  pub few : i ≤ n
  pub along : here ≡ at + w * i
  pub same : read_each w place rule (n - i) history bytes here ≡ read_each w place rule n [] bytes at

module _ (w : ℕ) (place rule : List ℕ → ℕ → ℕ) (bytes : List ℕ) (at n : ℕ) {A : Type 0}
    (state : List ℕ → A) where
  abbrev whole : Reading (List ℕ)
  whole = read_each w place rule n [] bytes at

  pub begins : {a : A} → a ≡ state [] → Reached w place rule bytes at n state a at 0
  unfolding Clean
  begins e =
      let m : n - 0 ≡ n = omega arith in
      record { history = []; position = e; many = refl; clean = tt; few = omega arith; along = rw (mul-zero w, add-zero at); same = rw m }

  pub ends : {a : A} {here i : ℕ} (r : Reached w place rule bytes at n state a here i) → n ≤ i → whole ≡ found r.history here
  unfolding read_each
  ends {a} {here} {i} r t =
      let m : n - i ≡ 0 = omega (arith, r.few) in
      sym (rw m at r.same)

  module _ {a : A} {here i : ℕ} (r : Reached w place rule bytes at n state a here i) (t : i < n) where
    pub short : read w bytes here ≡ refused 2 0 → whole ≡ refused 2 0
    unfolding read_each
    short q =
        let m : n - i ≡ suc (n - (i + 1)) = omega arith in
        sym (rw m at r.same) ∙ rw q

    module _ {c f : ℕ} (q : read w bytes here ≡ found c (here + w)) (e : f ≡ rule r.history c) where
      pub stops : (f ≡ 0 → ⊥) → whole ≡ refused f (place r.history c)
      unfolding read_each refuse
      stops z =
          let m : n - i ≡ suc (n - (i + 1)) = omega arith in
          sym (rw m at r.same) ∙ rw (q, ← e, ne_eqb f 0 z)

      pub goes : f ≡ 0 → {b : A} → b ≡ state (c ∷ r.history) → Reached w place rule bytes at n state b (here + w) (i + 1)
      unfolding Clean read_each refuse
      goes z {b} p =
          let m : n - i ≡ suc (n - (i + 1)) = omega arith in
          record {
            history = c ∷ r.history;
            position = p;
            many = omega (arith, r.many);
            clean = (sym e ∙ z, r.clean);
            few = omega arith;
            along = omega (arith, r.along, ap (λ (x : ℕ). w * x) (add-one i), mul-suc w i);
            same = sym (sym (rw m at r.same) ∙ rw (q, ← e, eq-eqb f 0 z));
          }
