-- How many members of a list pass a test after one of them is replaced. Assumes nothing.
use Rattle.std.specs.Prelude.{if◌then◌else◌}
use Prim.Native.Nat.{ℕ, zero, suc, ◌≤◌, ◌<◌, ◌+◌}
use native.Mathlib.Omega.{arith}
use mathlib.Core.Path.{◌≡◌}
use mathlib.Core.Bool.{Bool, true, false}
use mathlib.Core.List.{List, [], ◌∷◌}
use lib.ListN.{length, get_or, set, length-set}
use lib.Seq.{get_or-set_other}
use Rattle.laws.specs.Choice.{how_many}
use Rattle.laws.proofs.Counts.{place-many}

module _ {A : Type 0} (test : A → Bool) (d : A) where
  -- the old member no longer counts, and the other one does
  pub many-set : (l : List A) (i : ℕ) (v : A) → i < length l
      → how_many test (set l i v) + (if test (get_or l i d) then 1 else 0) ≡ how_many test l + (if test v then 1 else 0)
  unfolding how_many
  many-set [] i v h = absurd (omega arith)
  many-set (x ∷ l) zero v h = omega arith
  many-set (x ∷ l) (suc i) v h = omega (arith, many-set l i v (omega arith))

  -- two members that pass, at two places, count two
  pub two-places : (v : A) → test v ≡ false → (l : List A) (i j : ℕ) → i < length l → j < length l → (j ≡ i → ⊥)
      → test (get_or l i d) ≡ true → test (get_or l j d) ≡ true → 2 ≤ how_many test l
  two-places v n l i j hi hj ne ei ej =
      let one = place-many test d (set l i v) j (rw (length-set l i v) hj) (rw (get_or-set_other l i j v d ne) ej) in
      let same = rw (ei, n) at (many-set l i v hi) in
      omega arith
