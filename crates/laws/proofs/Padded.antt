-- One member more in an array of fixed size; the first members, and the length, under a function of each. Assumes nothing.
use Prim.Native.Nat.{ℕ, zero, suc, ◌≤◌, ◌<◌}
use native.Mathlib.Omega.{arith}
use mathlib.Core.Path.{◌≡◌, refl, sym, ap, ◌∙◌}
use mathlib.Core.List.{List, [], ◌∷◌, ◌++◌, map}
use lib.ListN.{length, get_or, set, take, replicate, length-map}
use Rattle.laws.specs.Padded.{padded}

module _ {A : Type 0} (z : A) where
  pub padded-none : (n : ℕ) → replicate n z ≡ padded z n []
  unfolding padded
  padded-none zero = refl
  padded-none (suc n) = ap (λ (l : List A). z ∷ l) (padded-none n)

  pub padded-more : (n : ℕ) (l : List A) (x : A) → length l < n → set (padded z n l) (length l) x ≡ padded z n (l ++ (x ∷ []))
  unfolding padded
  padded-more zero l x h = absurd (omega arith)
  padded-more (suc n) [] x h = refl
  padded-more (suc n) (y ∷ l) x h = ap (λ (m : List A). y ∷ m) (padded-more n l x (omega arith))

  -- the members again, as many as there are
  pub padded_back : (n : ℕ) (l : List A) → length l ≤ n → take (length l) (padded z n l) ≡ l
  unfolding padded
  padded_back n [] h = refl
  padded_back zero (x ∷ l) h = absurd (omega arith)
  padded_back (suc n) (x ∷ l) h = ap (λ (m : List A). x ∷ m) (padded_back n l (omega arith))

  -- no place more and none less
  pub length-padded : (n : ℕ) (l : List A) → length (padded z n l) ≡ n
  unfolding padded
  length-padded zero l = refl
  length-padded (suc n) [] = ap suc (length-padded n [])
  length-padded (suc n) (x ∷ l) = ap suc (length-padded n l)

  -- what stands at a place, where all members have room
  pub padded_at : (n : ℕ) (l : List A) (k : ℕ) → length l ≤ n → get_or (padded z n l) k z ≡ get_or l k z
  unfolding padded
  padded_at zero [] k h = refl
  padded_at zero (x ∷ l) k h = absurd (omega arith)
  padded_at (suc n) [] zero h = refl
  padded_at (suc n) [] (suc k) h = padded_at n [] k (omega arith)
  padded_at (suc n) (x ∷ l) zero h = refl
  padded_at (suc n) (x ∷ l) (suc k) h = padded_at n l k (omega arith)

-- the first members under a function
pub take-map : {A B : Type 0} (f : A → B) (n : ℕ) (l : List A) → take n (map f l) ≡ map f (take n l)
take-map f zero l = refl
take-map f (suc n) [] = refl
take-map f (suc n) (x ∷ l) = ap (λ (m : List _). f x ∷ m) (take-map f n l)

-- a list is as long as what a function makes of its members
pub length_under : (X Y : Type 0) (f : X → Y) (l : List X) (n : ℕ) → length (map f l) ≡ n → length l ≡ n
length_under X Y f l n e = sym (length-map l f) ∙ e
