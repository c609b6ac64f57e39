-- An item that is nothing, and any other. Assumes nothing.
use Prim.Native.Nat.{ℕ}
use mathlib.Core.Path.{◌≡◌, sym, ap, ◌∙◌}
use mathlib.Core.List.{List, []}
use borrow.Author.Tests.{eq-eqb, ne_eqb}
use lib.IntN.{ℤ, pos, nat_abs}
use mir.Syntax.{w16}
use mir.Val.{SFits, to_z, of_z}
use mir.Facts.{to_z-of_z}
use Rattle.laws.specs.Slip.{line}
use Rattle.laws.proofs.Slip.{nothing_0}
use Rattle.text.specs.Putting.{Put}
use Rattle.slip_text.specs.Text.{item_line}

-- an item of nothing, and any other, told by its 16 bits
module _ (word : List ℕ) (points : ℤ) (f : SFits w16 points) where
  pub no_line : of_z w16 points ≡ 0 → item_line word points ≡ []
  unfolding item_line
  no_line e =
      let none : points ≡ pos 0 = sym (to_z-of_z f) ∙ ap (to_z w16) e in
      rw none

  pub some-line : (of_z w16 points ≡ 0 → ⊥) → item_line word points ≡ line word points
  unfolding item_line
  some-line e = rw (ne_eqb (nat_abs points) 0 (λ z. e (ap (of_z w16) (nothing_0 points (eq-eqb (nat_abs points) 0 z)))))

-- an item whose points are read back from their 16 bits
module _ (word : List ℕ) (points : ℤ) (f : SFits w16 points) where
  pub item_put : {out left : List ℕ} {at next : ℕ} → Put out at (item_line word (to_z w16 (of_z w16 points))) left next
      → Put out at (item_line word points) left next
  item_put p = rw (to_z-of_z f) at p
