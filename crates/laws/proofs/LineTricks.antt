-- A side wins no more tricks in a line than the line completes. Assumes nothing.
use Rattle.std.specs.Prelude.{if◌then◌else◌}
use Prim.Native.Nat.{ℕ, ◌+◌, ◌-◌, ◌≤◌}
use native.Mathlib.Omega.{arith}
use mathlib.Core.Path.{◌≡◌}
use mathlib.Core.Bool.{Bool, true, false}
use mathlib.Core.List.{List, [], ◌∷◌, ◌++◌}
use borrow.Author.Tests.{eqb-true}
use lib.Dec.{eqb}
use Rattle.laws.specs.Cards.{side_of}
use Rattle.laws.specs.Law44.{cards_played, cards_in_trick, tricks_complete, leader, winners, tricks_won}
use Rattle.laws.specs.BestPlay.{gain}
use Rattle.laws.specs.Lines.{ours}
use Rattle.laws.proofs.Tests.{by_test}
use Rattle.laws.proofs.BestPlay.{won-more}

module _ (trump opening : ℕ) (deal : List ℕ) (side : ℕ) where
  -- a card gains a trick only where it completes one
  completes : (h : List ℕ) (c : ℕ) (b : Bool) → cards_in_trick (c ∷ h) ≡ 0 → (if b then 1 else 0) + tricks_complete h ≤ tricks_complete (c ∷ h)
  unfolding tricks_complete cards_in_trick cards_played
  completes h c true e = omega (arith, e)
  completes h c false e = omega (arith, e)

  counts_on : (h : List ℕ) (c : ℕ) → 0 + tricks_complete h ≤ tricks_complete (c ∷ h)
  unfolding tricks_complete cards_played
  counts_on h c = omega arith

  gain-complete : (h : List ℕ) (c : ℕ) → gain trump opening side h c + tricks_complete h ≤ tricks_complete (c ∷ h)
  unfolding gain
  gain-complete h c =
      by_test (eqb (cards_in_trick (c ∷ h)) 0)
      (λ (q : eqb (cards_in_trick (c ∷ h)) 0 ≡ true). rw q (completes h c (eqb (side_of (leader trump opening (c ∷ h))) side) (eqb-true _ _ q)))
      (λ (q : eqb (cards_in_trick (c ∷ h)) 0 ≡ false). rw q (counts_on h c))

  module _ (g : List ℕ) where
    won-complete : (u : List ℕ)
        → tricks_won side (winners trump opening (u ++ g)) + tricks_complete g ≤ tricks_won side (winners trump opening g) + tricks_complete (u ++ g)
    won-complete [] = omega arith
    won-complete (c ∷ u) = omega (arith, won-complete u, won-more trump opening deal side (u ++ g) c, gain-complete (u ++ g) c)

    pub ours-complete : (u : List ℕ) → ours trump opening side g u ≤ tricks_complete (u ++ g) - tricks_complete g
    unfolding ours
    ours-complete u = omega (arith, won-complete u)
