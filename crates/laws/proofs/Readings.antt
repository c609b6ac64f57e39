-- What follows from a reading that came to its end, step by step, and when a step does. Assumes nothing.
use Rattle.std.specs.Prelude.{if◌then◌else◌}
use Prim.Native.Nat.{ℕ, ◌+◌, ◌-◌, ◌*◌, ◌≤◌, ◌<◌}
use native.Mathlib.Omega.{arith}
use mathlib.Core.Path.{◌≡◌, refl}
use mathlib.Core.Bool.{Bool, true, false}
use mathlib.Core.List.{List}
use borrow.Author.Tests.{leb-true, leb-false, le-leb, lt-leb, eqb-true, not-false}
use lib.Dec.{leb}
use lib.ListN.{length}
use Rattle.laws.specs.Refusals.{record_ends, not_padding}
use Rattle.laws.specs.Reading.{number_at, Reading, Reading.refused, Reading.found, onward, read, refuse, overfull, ending}
use Rattle.laws.proofs.Tests.{or_left, or_right}
use Rattle.laws.proofs.Spelled.{Padded}

-- a refusal is no value
pub refused-found : {A P : Type 0} {n place end : ℕ} {a : A} → ◌≡◌ {A = Reading A} (refused n place) (found a end) → P
refused-found q = let z : ◌≡◌ {A = ℕ} 0 1 = cc in absurd (omega arith)

module _ {B : Type 0} {b : B} {end : ℕ} where
  -- a reading whose first step is any reading
  pub first-of : {A : Type 0} (r : Reading A) (next : A → ℕ → Reading B) → onward r next ≡ found b end
      → (a : A) × (m : ℕ) × (r ≡ found a m) × (next a m ≡ found b end)
  first-of (refused n place) next q = refused-found q
  first-of (found a m) next q = (a, m, refl, q)

  -- .. a field
  pub first_read : (w : ℕ) (bytes : List ℕ) (at : ℕ) (next : ℕ → ℕ → Reading B) → onward (read w bytes at) next ≡ found b end
      → (at + w ≤ 8 * length bytes) × (next (number_at bytes at w) (at + w) ≡ found b end)
  unfolding read
  first_read w bytes at next q = go (leb (at + w) (8 * length bytes)) refl q
    where
      go : (t : Bool) → leb (at + w) (8 * length bytes) ≡ t
          → onward (if t then found (number_at bytes at w) (at + w) else refused record_ends 0) next ≡ found b end
          → (at + w ≤ 8 * length bytes) × (next (number_at bytes at w) (at + w) ≡ found b end)
      go true h p = (leb-true _ _ h, p)
      go false h p = refused-found p

  -- .. a test
  pub first_test : (n place : ℕ) (test : Bool) (bytes : List ℕ) (at : ℕ) (next : Unit {0} → ℕ → Reading B)
      → onward (refuse n place test bytes at) next ≡ found b end
      → (test ≡ false) × (next tt at ≡ found b end)
  unfolding refuse
  first_test n place true bytes at next q = refused-found q
  first_test n place false bytes at next q = (refl, q)

  -- .. the end
  pub first-ending : (bytes : List ℕ) (at : ℕ) (next : Unit {0} → ℕ → Reading B) → onward (ending bytes at) next ≡ found b end
      → Padded bytes at × (next tt at ≡ found b end)
  unfolding ending overfull
  first-ending bytes at next q =
      let r = first_test not_padding 0 _ bytes at next q in
      let more : Bool = leb 8 (8 * length bytes - at) in
      (record { few = leb-false 8 _ (or_left more _ r.0); zeros = eqb-true _ 0 (not-false _ (or_right more _ r.0)) }, r.1)

-- the other way: a step that comes to its end
pub read_is : (w : ℕ) (bytes : List ℕ) (at : ℕ) {v : ℕ} → number_at bytes at w ≡ v → at + w ≤ 8 * length bytes → read w bytes at ≡ found v (at + w)
unfolding read
read_is w bytes at e h = simp (le-leb (at + w) (8 * length bytes) h, e)

pub test_is : (n place : ℕ) {test : Bool} (bytes : List ℕ) (at : ℕ) → test ≡ false → refuse n place test bytes at ≡ found tt at
unfolding refuse
test_is n place bytes at h = rw h

pub ending-is : (bytes : List ℕ) (at : ℕ) → Padded bytes at → ending bytes at ≡ found tt at
unfolding ending overfull
ending-is bytes at h = test_is not_padding 0 bytes at (simp (lt-leb 8 (8 * length bytes - at) h.few, h.zeros))

-- a step that is refused
pub read_short : (w : ℕ) (bytes : List ℕ) (at : ℕ) → 8 * length bytes < at + w → read w bytes at ≡ refused record_ends 0
unfolding read
read_short w bytes at h = simp (lt-leb (at + w) (8 * length bytes) h)

pub test_stops : (n place : ℕ) {test : Bool} (bytes : List ℕ) (at : ℕ) → test ≡ true → refuse n place test bytes at ≡ refused n place
unfolding refuse
test_stops n place bytes at h = rw h
