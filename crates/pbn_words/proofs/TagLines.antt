-- A line that begins with a tag, and what follows the tag. Assumes nothing.
use Prim.Native.Nat.{ℕ}
use mathlib.Core.Path.{◌≡◌, refl, sym, ap, ◌∙◌}
use mathlib.Core.Bool.{Bool, true, false, ◌&&◌}
use mathlib.Core.List.{List, [], ◌∷◌, ◌++◌}
use lib.Dec.{eqb}
use lib.ListN.{length, take, drop}
use Rattle.laws.specs.PbnText.{letter_of, seat_letters, tag_end, seat_line}
use Rattle.laws.specs.PbnReading.{same_bytes}

and_assoc : (a b c : Bool) → (a && (b && c)) ≡ ((a && b) && c)
and_assoc true b c = refl
and_assoc false b c = refl

-- bytes and others after them
pub same_append : (s t l : List ℕ) → same_bytes (s ++ t) l ≡ (same_bytes s (take (length s) l) && same_bytes t (drop (length s) l))
unfolding same_bytes
same_append [] t l = refl
same_append (b ∷ s) t [] = refl
same_append (b ∷ s) t (c ∷ l) = ap (λ (r : Bool). eqb b c && r) (same_append s t l) ∙ and_assoc (eqb b c) _ _

-- the line of a seat's tag
module _ (tag line : List ℕ) (seat : ℕ) where
  pub no_tag : same_bytes tag (take (length tag) line) ≡ false → false ≡ same_bytes (seat_line tag seat) line
  unfolding seat_line
  no_tag e =
      let rest = letter_of seat_letters seat ∷ tag_end in
      sym (same_append tag rest line ∙ ap (λ b. b && same_bytes rest (drop (length tag) line)) e)

  pub with_tag : same_bytes tag (take (length tag) line) ≡ true
      → same_bytes (letter_of seat_letters seat ∷ tag_end) (drop (length tag) line) ≡ same_bytes (seat_line tag seat) line
  unfolding seat_line
  with_tag e =
      let rest = letter_of seat_letters seat ∷ tag_end in
      sym (same_append tag rest line ∙ ap (λ b. b && same_bytes rest (drop (length tag) line)) e)
