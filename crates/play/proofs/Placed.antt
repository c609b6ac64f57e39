-- One place of the holders changed by comparing every place with the card: the loop's turns, and what stands at a place after it.
-- Assumes nothing.
use Rattle.std.specs.Prelude.{if◌then◌else◌}
use Prim.Native.Nat.{ℕ, zero, suc, ◌≤◌, ◌<◌, ◌+◌}
use mathlib.Core.Path.{◌≡◌, refl, sym, ◌∙◌}
use mathlib.Core.Bool.{true, false}
use mathlib.Core.List.{List, [], ◌∷◌}
use native.Mathlib.Omega.{arith}
use borrow.Author.Tests.{eqb-true, eqb-false}
use lib.Bits.{bit_or, or_zero_r}
use lib.Dec.{eqb}
use lib.ListN.{length, get_or, set, length-set}
use lib.Seq.{get_or-set_same, get_or-set_other, ext_get_or}
use Rattle.laws.proofs.Tests.{by_test}
use Rattle.play.specs.Position.{put_played}

-- n numbers from k on
unfoldable pub ascending : ℕ → ℕ → List ℕ
ascending zero k = []
ascending (suc n) k = k ∷ ascending n (suc k)

pub at_place : (n k i : ℕ) → i < n → get_or (ascending n k) i 0 ≡ k + i
unfolding ascending
at_place zero k i h = absurd (omega arith)
at_place (suc n) k zero h = omega arith
at_place (suc n) k (suc i) h = omega (arith, at_place n (suc k) i (omega arith))

-- what stands at a place: 4 more at the card's
pub placed : (l : List ℕ) (card k : ℕ) → k < length l → get_or (put_played l card) k 0 ≡ bit_or (get_or l k 0) (if eqb k card then 4 else 0)
unfolding put_played
placed l card k h =
    by_test (eqb k card)
    (λ (q : eqb k card ≡ true).
    rw (q, sym (eqb-true k card q)) (get_or-set_same l k _ 0 h))
    (λ (q : eqb k card ≡ false). rw (q, or_zero_r (get_or l k 0)) (get_or-set_other l card k _ 0 (eqb-false k card q)))

-- the places before i are changed, and those from i on are as they were
pub record Passed (card : ℕ) (l now : List ℕ) (i : ℕ) : Type 0 where
  pub few : i ≤ 52
  pub places : length now ≡ 52
  pub done : (k : ℕ) → k < i → get_or now k 0 ≡ get_or (put_played l card) k 0
  pub rest : (k : ℕ) → i ≤ k → get_or now k 0 ≡ get_or l k 0

module _ (card : ℕ) (l : List ℕ) (all : length l ≡ 52) where
  pub none_passed : Passed card l l 0
  none_passed = record { few = omega arith; places = all; done = λ k h. absurd (omega arith); rest = λ k h. refl }

  pub passes : {now cards : List ℕ} {i v : ℕ} → Passed card l now i → i < 52 → cards ≡ ascending 52 0 → v ≡ (if eqb (get_or cards i 0) card then 4 else 0)
      → Passed card l (set now i (bit_or (get_or now i 0) v)) (i + 1)
  passes {now} {cards} {i} {v} r h e q =
      let place : get_or cards i 0 ≡ i = rw e (at_place 52 0 i h ∙ omega arith) in
      let value : v ≡ (if eqb i card then 4 else 0) = rw place at q in
      let put : bit_or (get_or now i 0) v ≡ get_or (put_played l card) i 0 = rw (value, r.rest i (omega arith)) (sym (placed l card i (omega arith))) in
      record {
        few = omega arith;
        places = length-set now i _ ∙ r.places;
        done =
            λ k b. by_test (eqb k i)
            (λ (s : eqb k i ≡ true). rw (eqb-true k i s) (get_or-set_same now i _ 0 (omega (arith, r.places)) ∙ put))
            (λ (s : eqb k i ≡ false). get_or-set_other now i k _ 0 (eqb-false k i s) ∙ r.done k (omega (arith, eqb-false k i s)));
        rest = λ k b. get_or-set_other now i k _ 0 (λ s. omega arith) ∙ r.rest k (omega arith);
      }

  pub all-passed : {now : List ℕ} {i : ℕ} → Passed card l now i → 52 ≤ i → now ≡ put_played l card
  unfolding put_played
  all-passed {now} {i} r h =
      ext_get_or 0 now (put_played l card) (r.places ∙ sym (length-set l card _ ∙ all)) (λ k b. r.done k (omega (arith, r.places)))
