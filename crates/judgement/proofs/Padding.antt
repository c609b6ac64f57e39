-- Padding in the code is the Laws' padding: a law for each way out. Assumes nothing.
use Prim.Native.Nat.{ℕ, ◌≤◌, ◌<◌, ◌+◌, ◌-◌, ◌*◌, ◌/◌, ◌%◌}
use mathlib.Core.Path.{◌≡◌, refl, sym}
use mathlib.Core.Bool.{Bool, true, false, not}
use mathlib.Core.List.{List}
use native.Mathlib.Omega.{arith}
use borrow.Author.Tests.{le-leb, lt-leb}
use lib.Dec.{eqb}
use lib.ListN.{length}
use Rattle.laws.specs.Reading.{number_at, overfull}

twice_not : (b : Bool) → not (not b) ≡ b
twice_not true = refl
twice_not false = refl

module _ (bytes : List ℕ) (at : ℕ) where
  pub none-behind : length bytes ≤ at / 8 → true ≡ not (overfull bytes at)
  unfolding overfull number_at
  none-behind h = let none : 8 * length bytes - at ≡ 0 = omega arith in rw none

  module _ (h : at / 8 < length bytes) where
    pub whole-bytes : at % 8 ≡ 0 → false ≡ not (overfull bytes at)
    unfolding overfull
    whole-bytes z = rw (le-leb 8 (8 * length bytes - at) (omega arith))

    pub more_bytes : (length bytes ≡ at / 8 + 1 → ⊥) → false ≡ not (overfull bytes at)
    unfolding overfull
    more_bytes n = rw (le-leb 8 (8 * length bytes - at) (omega arith))

    pub bits_left : (at % 8 ≡ 0 → ⊥) → length bytes ≡ at / 8 + 1 → (rest : ℕ) → rest ≡ number_at bytes at (8 - at % 8) → eqb rest 0 ≡ not (overfull bytes at)
    unfolding overfull
    bits_left u n rest e =
        let left : 8 * length bytes - at ≡ 8 - at % 8 = omega arith in
        rw (left, lt-leb 8 (8 - at % 8) (omega arith), sym e) (sym (twice_not (eqb rest 0)))
