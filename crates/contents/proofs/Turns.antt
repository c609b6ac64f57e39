-- A loop over codes that are given, each checked on the history before it: one kit for calls and cards.
-- What the checks come to from a turn on is what they come to in all. Assumes nothing.
use Prim.Native.Nat.{ℕ, ◌≤◌, ◌<◌, ◌+◌}
use native.Mathlib.Numerals.{add-one}
use native.Mathlib.Omega.{arith}
use mathlib.Core.Path.{◌≡◌, refl, sym, ◌∙◌}
use mathlib.Core.List.{List, [], ◌∷◌}
use borrow.Author.Tests.{eq-eqb, ne_eqb}
use lib.ListN.{length, get_or, drop, drop_of_length-le}
use lib.Seq.{drop-cons}
use Rattle.laws.specs.Reading.{Reading, Reading.refused, Reading.found, refuse}
use Rattle.laws.specs.Contents.{take_each}
use Rattle.laws.proofs.Histories.{Clean}

-- after i of the codes: a is the state of their history
pub record Reached (place rule : List ℕ → ℕ → ℕ) (codes : List ℕ) {A : Type 0} (state : List ℕ → A) (a : A) (i : ℕ) : Type 0 where
  pub history : List ℕ
  pub position : a ≡ state history
  pub many : length history ≡ i
  pub clean : Clean rule history
  pub few : i ≤ length codes
  pub same : take_each place rule (drop i codes) history [] 0 ≡ take_each place rule codes [] [] 0

module _ (place rule : List ℕ → ℕ → ℕ) (codes : List ℕ) {A : Type 0} (state : List ℕ → A) where
  abbrev whole : Reading (List ℕ)
  whole = take_each place rule codes [] [] 0

  pub begins : {a : A} → a ≡ state [] → Reached place rule codes state a 0
  unfolding Clean
  begins e = record { history = []; position = e; many = refl; clean = tt; few = omega arith; same = refl }

  pub ends : {a : A} {i : ℕ} (r : Reached place rule codes state a i) → length codes ≤ i → whole ≡ found r.history 0
  unfolding take_each
  ends r h = sym (rw (drop_of_length-le codes h) at r.same)

  module _ {a : A} {i : ℕ} (r : Reached place rule codes state a i) (t : i < length codes) {c f : ℕ} (ec : c ≡ get_or codes i 0)
      (e : f ≡ rule r.history c) where
    next : drop i codes ≡ c ∷ drop (i + 1) codes
    next = rw (add-one i, ec) (drop-cons codes i 0 t)

    pub stops : (f ≡ 0 → ⊥) → whole ≡ refused f (place r.history c)
    unfolding take_each refuse
    stops z = sym (rw next at r.same) ∙ rw (← e, ne_eqb f 0 z)

    pub goes : f ≡ 0 → {b : A} → b ≡ state (c ∷ r.history) → Reached place rule codes state b (i + 1)
    unfolding Clean take_each refuse
    goes z p =
        record {
          history = c ∷ r.history;
          position = p;
          many = omega (arith, r.many);
          clean = (sym e ∙ z, r.clean);
          few = omega arith;
          same = sym (sym (rw next at r.same) ∙ rw (← e, eq-eqb f 0 z));
        }
