-- The same bytes, as the code compares them. Assumes nothing.
use Prim.Native.Nat.{ℕ}
use mathlib.Core.Path.{◌≡◌, refl, ap, ap₂}
use lib.Pointwise.{pointwise}
use mathlib.Core.Bool.{◌&&◌}
use mathlib.Core.List.{List, [], ◌∷◌}
use lib.Dec.{eqb}
use Rattle.laws.specs.PbnReading.{same_bytes}
use Rattle.laws.proofs.Tests.{eqb_swap}

-- ---- what `==` answers, and what `starts_with` does
pub pair_by_pair : (s t : List ℕ) → pointwise eqb s t ≡ same_bytes s t
unfolding same_bytes
pair_by_pair [] [] = refl
pair_by_pair [] (b ∷ t) = refl
pair_by_pair (a ∷ s) [] = refl
pair_by_pair (a ∷ s) (b ∷ t) = ap (λ r. eqb a b && r) (pair_by_pair s t)

pub equal_bytes : (t s : List ℕ) → pointwise eqb t s ≡ same_bytes s t
unfolding same_bytes
equal_bytes [] [] = refl
equal_bytes (b ∷ t) [] = refl
equal_bytes [] (a ∷ s) = refl
equal_bytes (b ∷ t) (a ∷ s) = ap₂ (λ q r. q && r) (eqb_swap b a) (equal_bytes t s)
