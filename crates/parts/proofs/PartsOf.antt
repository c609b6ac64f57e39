-- The parts of bytes between those that part them: the first part, and the parts after it. Assumes nothing.
use Prim.Native.Nat.{ℕ, suc, ◌-◌, ◌≤◌, ◌<◌}
use native.Mathlib.Omega.{arith}
use mathlib.Core.Path.{◌≡◌, refl, ◌∙◌}
use mathlib.Core.Bool.{true, false}
use mathlib.Core.List.{List, [], ◌∷◌}
use borrow.Author.Tests.{ltb-false}
use lib.Dec.{eqb, ltb}
use lib.ListN.{length, take, drop, length-drop, drop_of_length-le}
use lib.Seq.{take_all}
use Rattle.laws.specs.Sheet.{before}
use Rattle.laws.specs.PbnReading.{parted_by}
use Rattle.laws.proofs.Tests.{by_test}
use Rattle.std.specs.List.{position_or_len}
use Rattle.std.specs.Prelude.{Option, Some, None, cond}
use Rattle.std.specs.Option.{unwrap_or}
use Rattle.parts.specs.Parts.{part_length}

module _ (byte : ℕ) where
  -- a part ends within the bytes
  pub part_within : (s : List ℕ) → part_length byte s ≤ length s
  unfolding part_length
  part_within [] = omega arith
  part_within (b ∷ s) =
      by_test (eqb b byte)
      (λ (q : eqb b byte ≡ true). rw q (omega arith))
      (λ (q : eqb b byte ≡ false). rw q (omega (arith, part_within s)))

  -- ---- the end of a part: the place of the first such byte
  pub first_place : (s : List ℕ) → position_or_len (λ (b : ℕ). eqb b byte) s ≡ part_length byte s
  unfolding part_length
  first_place [] = refl
  first_place (b ∷ s) =
      by_test (eqb b byte)
      (λ (q : eqb b byte ≡ true). rw q)
      (λ (q : eqb b byte ≡ false). rw q (omega (arith, first_place s)))

  pub place_or_end : (s : List ℕ) {r : Option ℕ} {n : ℕ}
      → r ≡ cond (ltb (position_or_len (λ (b : ℕ). eqb b byte) s) (length s)) (Some (position_or_len (λ (b : ℕ). eqb b byte) s)) None
      → n ≡ unwrap_or r (length s) → n ≡ part_length byte s
  place_or_end s {r} {n} e u =
      by_test (ltb (position_or_len (λ (b : ℕ). eqb b byte) s) (length s))
      (λ (q : ltb (position_or_len (λ (b : ℕ). eqb b byte) s) (length s) ≡ true). u ∙ rw (e, q) (first_place s))
      (λ (q : ltb (position_or_len (λ (b : ℕ). eqb b byte) s) (length s) ≡ false).
      let some = ltb-false _ _ q in
      u ∙ rw (e, q) (omega (arith, first_place s, part_within s)))

  pub behind_end : (s : List ℕ) (i : ℕ) → length s ≤ i → part_length byte (drop i s) ≡ 0
  unfolding part_length
  behind_end s i h = rw (drop_of_length-le s h)

  -- ---- the first part, and the others
  pub first_part : (s : List ℕ) → part_length byte s < length s
      → parted_by byte s ≡ take (part_length byte s) s ∷ parted_by byte (drop (suc (part_length byte s)) s)
  unfolding parted_by part_length before
  first_part [] h = absurd (omega arith)
  first_part (b ∷ s) h =
      by_test (eqb b byte)
      (λ (q : eqb b byte ≡ true). rw q)
      (λ (q : eqb b byte ≡ false).
      let within : suc (part_length byte s) < suc (length s) = rw q at h in
      rw (q, first_part s (omega arith)))

  pub last_part : (s : List ℕ) → part_length byte s ≡ length s → parted_by byte s ≡ s ∷ []
  unfolding parted_by part_length before
  last_part [] h = refl
  last_part (b ∷ s) h =
      by_test (eqb b byte)
      (λ (q : eqb b byte ≡ true). let none : 0 ≡ suc (length s) = rw q at h in absurd (omega arith))
      (λ (q : eqb b byte ≡ false).
      let all : suc (part_length byte s) ≡ suc (length s) = rw q at h in
      rw (q, last_part s (omega arith)))

-- the rest from a place on, as a slice to the end has it
pub rest-is : (s : List ℕ) (at : ℕ) → take (length s - at) (drop at s) ≡ drop at s
rest-is s at = take_all (length s - at) (drop at s) (omega (arith, length-drop at s))
