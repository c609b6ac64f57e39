-- Members of a list that a rule allows each after those before it: along the list, and for every place. Assumes nothing.
use Prim.Native.Nat.{ℕ, zero, suc, ◌^◌, ◌<◌}
use native.Mathlib.Omega.{arith}
use mathlib.Core.Path.{◌≡◌, ap, ◌∙◌}
use mathlib.Core.Logic.{◌↔◌}
use mathlib.Core.List.{List, [], ◌∷◌, reverse, reverse_aux, reverse-append}
use lib.ListN.{length, get_or, take}
use lib.Seq.{take-suc}
use Rattle.laws.specs.Refusals.{accepted}
use Rattle.laws.specs.Record.{row}
use Rattle.laws.specs.Lawful.{first_of}
use Rattle.laws.proofs.Written.{Fit}

-- the members before a place and the member there are those before the next place
pub first-suc : (l : List ℕ) (k : ℕ) → k < length l → first_of (suc k) l ≡ get_or l k 0 ∷ first_of k l
first-suc l k h = ap reverse (take-suc l k 0 h) ∙ reverse-append (take k l) (get_or l k 0 ∷ [])

-- each member is allowed after the history h and the members before it
unfoldable pub Each : (List ℕ → ℕ → Type 0) → List ℕ → List ℕ → Type 0
Each Ok h [] = Unit {0}
Each Ok h (c ∷ l) = Ok h c × Each Ok (c ∷ h) l

-- no code of the history, latest first, is refused after those before it
unfoldable pub Clean : (List ℕ → ℕ → ℕ) → List ℕ → Type 0
Clean rule [] = Unit {0}
Clean rule (c ∷ h) = (rule h c ≡ accepted) × Clean rule h

module _ (Ok : List ℕ → ℕ → Type 0) where
  at_place : (h l : List ℕ) → Each Ok h l → (k : ℕ) → k < length l → Ok (reverse_aux (take k l) h) (get_or l k 0)
  unfolding Each
  at_place h [] a k w = absurd (omega arith)
  at_place h (c ∷ l) a zero w = a.0
  at_place h (c ∷ l) a (suc k) w = at_place (c ∷ h) l a.1 k (omega arith)

  from_places : (h l : List ℕ) → ((k : ℕ) → k < length l → Ok (reverse_aux (take k l) h) (get_or l k 0)) → Each Ok h l
  unfolding Each
  from_places h [] f = tt
  from_places h (c ∷ l) f = (f 0 (omega arith), from_places (c ∷ h) l (λ k w. f (suc k) (omega arith)))

  -- from the start: the member at each place is allowed after the first k members
  pub each-place : (l : List ℕ) → Each Ok [] l ↔ ((k : ℕ) → k < length l → Ok (first_of k l) (get_or l k 0))
  each-place l = (at_place [] l, from_places [] l)

  -- where what is allowed fits a width, the row of the members does
  pub fit_each : (w : ℕ) → ((h : List ℕ) (c : ℕ) → Ok h c → c < 2 ^ w) → (h l : List ℕ) → Each Ok h l → Fit (row w l)
  unfolding Each Fit row
  fit_each w f h [] a = tt
  fit_each w f h (c ∷ l) a = (f h c a.0, fit_each w f (c ∷ h) l a.1)
