-- A section of the reading is exact: it comes to its end with a value just where the value is lawful and its fields stand there. Assumes nothing.
use Prim.Native.Nat.{ℕ, zero, suc, ◌+◌, ◌*◌, ◌^◌, ◌≤◌, ◌<◌}
use native.Mathlib.Nat.{add-zero, add_assoc}
use native.Mathlib.Omega.{arith}
use mathlib.Core.Path.{◌≡◌, refl, sym, ap, ◌∙◌}
use mathlib.Core.Logic.{◌↔◌}
use mathlib.Core.Bool.{false, not}
use mathlib.Core.List.{List, [], ◌∷◌, reverse, reverse_aux, reverse-reverse}
use borrow.Author.Tests.{eqb-true, eq-eqb, not-false}
use lib.Dec.{eqb}
use lib.ListN.{length, length-reverse}
use Rattle.laws.specs.Refusals.{accepted}
use Rattle.laws.specs.Reading.{number_at, Reading, Reading.found, Reader, read_row, read_each}
use Rattle.laws.specs.Record.{Field, field, row, bits}
use Rattle.laws.proofs.Bits.{number_lt}
use Rattle.laws.proofs.Spelled.{Spells, Stands}
use Rattle.laws.proofs.Readings.{first-of, first_read, first_test, read_is, test_is}
use Rattle.laws.proofs.Histories.{Each}

pub record Exact {A : Type 0} (m : Reader A) (Ok : A → Type 0) (fields : A → List Field) : Type 0 where
  pub reads : (bytes : List ℕ) (at : ℕ) (a : A) (end : ℕ) → at ≤ 8 * length bytes → m bytes at ≡ found a end → Ok a × Stands bytes at (fields a) end
  pub is : (bytes : List ℕ) (at : ℕ) (a : A) (end : ℕ) → Ok a → Stands bytes at (fields a) end → m bytes at ≡ found a end

-- what holds of the value and the bit that a section gives at its end
pub landed : {A : Type 0} (Ok : A → Type 0) (fields : A → List Field) {bytes : List ℕ} {at : ℕ} {a x : A} {m end : ℕ}
    → ◌≡◌ {A = Reading A} (found a m) (found x end)
    → Ok a × Stands bytes at (fields a) m → Ok x × Stands bytes at (fields x) end
landed Ok fields {bytes} {at} {a} {x} {m} {end} q h =
    let same : a ≡ x = cc in
    let stop : m ≡ end = cc in
    rw (← same, ← stop) h

-- one field, and those behind it
module _ {bytes : List ℕ} {at w v end : ℕ} {fs : List Field} where
  pub stands_cons : number_at bytes at w ≡ v → Stands bytes (at + w) fs end → Stands bytes at (field w v ∷ fs) end
  unfolding Spells bits
  stands_cons e h = record { spelled = (e, h.spelled); next = h.next ∙ add_assoc at w (bits fs); whole = h.whole }

  pub stands_here : Stands bytes at (field w v ∷ fs) end → number_at bytes at w ≡ v
  unfolding Spells
  stands_here h = h.spelled.0

  pub stands-fits : Stands bytes at (field w v ∷ fs) end → at + w ≤ 8 * length bytes
  unfolding bits
  stands-fits h = omega (arith, h.next, h.whole)

  pub stands-rest : Stands bytes at (field w v ∷ fs) end → Stands bytes (at + w) fs end
  unfolding Spells bits
  stands-rest h = record { spelled = h.spelled.1; next = h.next ∙ sym (add_assoc at w (bits fs)); whole = h.whole }

pub stands_nil : {bytes : List ℕ} {at end : ℕ} → at ≡ end → at ≤ 8 * length bytes → Stands bytes at [] end
unfolding Spells bits
stands_nil {bytes} {at} q w = record { spelled = tt; next = sym q ∙ sym (add-zero at); whole = rw q at w }

pub stands_end : {bytes : List ℕ} {at end : ℕ} → Stands bytes at [] end → at ≡ end
unfolding bits
stands_end {bytes} {at} h = sym (h.next ∙ add-zero at)

-- a row of n fields of one width: any values that fit it
abbrev pub Narrow : ℕ → List ℕ → ℕ → Type 0
Narrow w h v = v < 2 ^ w

module _ (w : ℕ) where
  row_reads : (n : ℕ) (h bytes : List ℕ) (at : ℕ) {l : List ℕ} {end : ℕ} → at ≤ 8 * length bytes → read_row w n bytes at ≡ found l end
      → (length l ≡ n) × Each (Narrow w) h l × Stands bytes at (row w l) end
  unfolding read_row Each row
  row_reads zero h bytes at {l} {end} k q =
      let none : [] ≡ l = cc in
      let same : at ≡ end = cc in
      rw (← none) (refl, tt, stands_nil same k)
  row_reads (suc n) h bytes at {l} {end} k q =
      let v : ℕ = number_at bytes at w in
      let a = first_read w bytes at _ q in
      let b = first-of (read_row w n bytes (at + w)) _ a.1 in
      let r = row_reads n (v ∷ h) bytes (at + w) a.0 b.2 in
      let all : v ∷ b.0 ≡ l = cc in
      let same : b.1 ≡ end = cc in
      rw (← all) (ap suc r.0, (number_lt bytes at w, r.1), stands_cons refl (rw same at r.2))

  row_goes : (l bytes : List ℕ) (at : ℕ) {end : ℕ} → Stands bytes at (row w l) end → read_row w (length l) bytes at ≡ found l end
  unfolding read_row row
  row_goes [] bytes at h = ap (λ (x : ℕ). found [] x) (stands_end h)
  row_goes (v ∷ l) bytes at h = simp (read_is w bytes at (stands_here h) (stands-fits h), row_goes l bytes (at + w) (stands-rest h))

  pub row_exact : (n : ℕ) → Exact (read_row w n) (λ l. (length l ≡ n) × Each (Narrow w) [] l) (row w)
  row_exact n =
      record {
        reads = λ bytes at l end k q. let r = row_reads n [] bytes at k q in ((r.0, r.1), r.2);
        is = λ bytes at l end ok h. rw (← ok.0) (row_goes l bytes at h);
      }

-- codes that a rule judges on the history before them; Ok is what the rule does not refuse
module _ (w : ℕ) (place rule : List ℕ → ℕ → ℕ) (Ok : List ℕ → ℕ → Type 0) (same : (h : List ℕ) (c : ℕ) → (rule h c ≡ accepted) ↔ Ok h c) where
  each-reads : (n : ℕ) (h bytes : List ℕ) (at : ℕ) {g : List ℕ} {end : ℕ} → at ≤ 8 * length bytes → read_each w place rule n h bytes at ≡ found g end
      → (l : List ℕ) × (length l ≡ n) × (g ≡ reverse_aux l h) × Each Ok h l × Stands bytes at (row w l) end
  unfolding read_each Each row
  each-reads zero h bytes at {g} {end} k q =
      let none : h ≡ g = cc in
      let stop : at ≡ end = cc in
      ([], refl, sym none, tt, stands_nil stop k)
  each-reads (suc n) h bytes at {g} {end} k q =
      let c : ℕ = number_at bytes at w in
      let a = first_read w bytes at _ q in
      let t = first_test (rule h c) (place h c) (not (eqb (rule h c) accepted)) bytes (at + w) _ a.1 in
      let ok : Ok h c = (same h c).0 (eqb-true (rule h c) accepted (not-false _ t.0)) in
      let r = each-reads n (c ∷ h) bytes (at + w) a.0 t.1 in
      (c ∷ r.0, ap suc r.1, r.2, (ok, r.3), stands_cons refl r.4)

  each_goes : (l h bytes : List ℕ) (at : ℕ) {end : ℕ} → Each Ok h l → Stands bytes at (row w l) end
      → read_each w place rule (length l) h bytes at ≡ found (reverse_aux l h) end
  unfolding read_each Each row
  each_goes [] h bytes at a k = ap (λ (x : ℕ). found h x) (stands_end k)
  each_goes (c ∷ l) h bytes at a k =
      let passes : not (eqb (rule h c) accepted) ≡ false = rw (eq-eqb (rule h c) accepted ((same h c).1 a.0)) in
      simp (read_is w bytes at (stands_here k) (stands-fits k), test_is (rule h c) (place h c) bytes (at + w) passes)
      (each_goes l (c ∷ h) bytes (at + w) a.1 (stands-rest k))

  -- the history is read latest first; its members stand in their order
  pub each_exact : (n : ℕ) → Exact (read_each w place rule n []) (λ g. (length g ≡ n) × Each Ok [] (reverse g)) (λ g. row w (reverse g))
  each_exact n =
      record {
        reads = λ bytes at g end k q. let r = each-reads n [] bytes at k q in taken bytes at g end r.0 r.1 r.2 r.3 r.4;
        is = λ bytes at g end ok k.
            rw (← ok.0, ← length-reverse g) (each_goes (reverse g) [] bytes at ok.1 k ∙ ap (λ (x : List ℕ). found x end) (reverse-reverse g));
      }
    where
      taken : (bytes : List ℕ) (at : ℕ) (g : List ℕ) (end : ℕ) (l : List ℕ) → length l ≡ n → g ≡ reverse l → Each Ok [] l → Stands bytes at (row w l) end
          → ((length g ≡ n) × Each Ok [] (reverse g)) × Stands bytes at (row w (reverse g)) end
      taken bytes at g end l many all a k = rw (all, reverse-reverse l, length-reverse l) ((many, a), k)
