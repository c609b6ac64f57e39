-- The lines of a text: the first, and what follows it. Assumes nothing.
use Prim.Native.Nat.{ℕ, suc, ◌+◌, ◌≤◌}
use native.Mathlib.Omega.{arith}
use Rattle.std.specs.Prelude.{if◌then◌else◌}
use mathlib.Core.Path.{◌≡◌, refl, ap, ◌∙◌}
use mathlib.Core.Bool.{true, false}
use mathlib.Core.List.{List, [], ◌∷◌}
use lib.Dec.{eqb}
use lib.ListN.{length, take, drop}
use Rattle.laws.specs.Sheet.{before, lines_of}
use Rattle.laws.proofs.Tests.{by_test}
use Rattle.parts.specs.Parts.{part_length}
use Rattle.score_lines.specs.Reading.{line_length}

-- ---- the end of a line, as `part_end` tells it
line_part : (s : List ℕ) → part_length 10 s ≡ line_length s
unfolding part_length line_length
line_part [] = refl
line_part (b ∷ s) = ap (λ (n : ℕ). if eqb b 10 then 0 else suc n) (line_part s)

pub line_ends : (s : List ℕ) (at : ℕ) {end : ℕ} → end ≡ at + part_length 10 (drop at s) → end ≡ at + line_length (drop at s)
line_ends s at e = e ∙ ap (λ (n : ℕ). at + n) (line_part (drop at s))

-- a line ends within the text
pub line-within : (s : List ℕ) → line_length s ≤ length s
unfolding line_length
line-within [] = omega arith
line-within (b ∷ s) =
    by_test (eqb b 10)
    (λ (q : eqb b 10 ≡ true). rw q (omega arith))
    (λ (q : eqb b 10 ≡ false). rw q (omega (arith, line-within s)))

-- ---- the first line of a text that is not empty, and the lines after it
pub first-line : (s : List ℕ) → (length s ≡ 0 → ⊥) → lines_of s ≡ take (line_length s) s ∷ lines_of (drop (suc (line_length s)) s)
unfolding lines_of line_length before
first-line [] h = absurd (h refl)
first-line (b ∷ []) h = by_test (eqb b 10) (λ (q : eqb b 10 ≡ true). rw q) (λ (q : eqb b 10 ≡ false). rw q)
first-line (b ∷ x ∷ s) h =
    by_test (eqb b 10)
    (λ (q : eqb b 10 ≡ true). rw q)
    (λ (q : eqb b 10 ≡ false). rw (q, first-line (x ∷ s) (λ e. omega arith)))
