-- The fields of a line, by its spaces. Assumes nothing.
use Prim.Native.Nat.{ℕ, suc, min, ◌+◌, ◌≤◌}
use native.Mathlib.Omega.{arith}
use Rattle.std.specs.Prelude.{if◌then◌else◌}
use mathlib.Core.Path.{◌≡◌, refl, sym, ap, ◌∙◌}
use mathlib.Core.Bool.{true, false}
use mathlib.Core.List.{List, [], ◌∷◌}
use borrow.Author.Tests.{leb-true, leb-false}
use lib.Dec.{eqb, leb}
use lib.ListN.{length, take, drop, drop_of_length-le}
use Rattle.laws.proofs.Tests.{by_test}
use Rattle.parts.specs.Parts.{part_length}
use Rattle.parts.proofs.PartsOf.{part_within}
use Rattle.team_script.specs.Boards.{to_space, field, behind}

-- `part_end` tells where the first space stands
spaces : (s : List ℕ) → part_length 32 s ≡ to_space s
unfolding part_length to_space
spaces [] = refl
spaces (b ∷ s) = ap (λ (n : ℕ). if eqb b 32 then 0 else suc n) (spaces s)

pub space_ends : (s : List ℕ) {end : ℕ} → end ≡ 0 + part_length 32 s → (end ≡ to_space s) × (end ≤ length s)
space_ends s e = (omega (arith, e, spaces s), omega (arith, e, part_within 32 s))

-- what stands behind the first space
module _ (s : List ℕ) (n : ℕ) (e : n ≡ to_space s) where
  pub behind-least : (m : ℕ) → m ≡ min (length s) (n + 1) → drop m s ≡ behind s
  unfolding behind
  behind-least m q =
      by_test (leb (length s) (n + 1))
      (λ (t : leb (length s) (n + 1) ≡ true).
      let h = leb-true _ _ t in
      let a : length s ≤ m = omega arith in
      let b : length s ≤ to_space s + 1 = omega arith in
      drop_of_length-le s a ∙ sym (drop_of_length-le s b))
      (λ (t : leb (length s) (n + 1) ≡ false).
      let h = leb-false _ _ t in
      let k : m ≡ to_space s + 1 = omega arith in
      ap (λ (i : ℕ). drop i s) k)

  pub field_is : take n s ≡ field s
  unfolding field
  field_is = rw e
