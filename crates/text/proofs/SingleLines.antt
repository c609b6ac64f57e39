-- How long single lines are, and a name's line put part by part. Assumes nothing.
use Prim.Native.Nat.{ℕ, suc, ◌+◌, ◌≤◌, ◌<◌, ◌^◌}
use native.Mathlib.Omega.{arith}
use mathlib.Core.Path.{◌≡◌, sym, ap}
use mathlib.Core.List.{List, [], ◌∷◌, ◌++◌, append_assoc}
use lib.IntN.{ℤ, pos, negsuc}
use lib.ListN.{length, length-append}
use mir.Syntax.{w16}
use mir.Val.{SFits}
use Rattle.laws.specs.Decimal.{signed_decimal}
use Rattle.laws.specs.Sheet.{newline}
use Rattle.laws.specs.Slip.{line, refusal_line}
use Rattle.text.specs.Putting.{Put}
use Rattle.text.proofs.Printed.{length_by}
use Rattle.text.proofs.Puts.{then}

pub size-short : (s : ℤ) → SFits w16 s → length (signed_decimal s) ≤ 6
unfolding signed_decimal
size-short (pos n) f = omega (arith, length_by 4 n (omega (arith, f.sfits)))
size-short (negsuc n) f = omega (arith, length_by 4 (suc n) (omega (arith, f.sfits)))

pub line-length : (name : List ℕ) (s : ℤ) → length (line name s) ≡ length name + length (signed_decimal s) + 2
unfolding line
line-length name s = simp length-append (omega arith)

-- a name, a space, a score and a newline
line-parts : (name : List ℕ) (s : ℤ) → line name s ≡ ((name ++ (32 ∷ [])) ++ signed_decimal s) ++ (newline ∷ [])
unfolding line
line-parts name s = ap (λ (l : List ℕ). l ++ (newline ∷ [])) (sym (append_assoc name (32 ∷ []) (signed_decimal s)))

pub named_put : (name : List ℕ) (s : ℤ) {o a b c d : List ℕ} {at i j k n : ℕ} → Put o at name a i → Put a i (32 ∷ []) b j → Put b j (signed_decimal s) c k
    → Put c k (newline ∷ []) d n → Put o at (line name s) d n
named_put name s p q r t = rw (line-parts name s) (then (then (then p q) r) t)

-- ---- two numbers
pub pair_short : (a b : ℕ) → a < 2 ^ 32 → b < 2 ^ 32 → length (refusal_line a b) ≤ 22
unfolding refusal_line
pair_short a b h k = simp length-append (omega (arith, length_by 9 a (omega arith), length_by 9 b (omega arith)))
