-- Fields that were written one after the other, each with a value that fits its width, are read back. Assumes nothing.
use Prim.Native.Nat.{ℕ, ◌+◌, ◌*◌, ◌/◌, ◌%◌, ◌^◌, ◌<◌}
use native.Mathlib.Nat.{zero-add, mul_assoc, add-mul, zero-mul}
use native.Mathlib.Omega.{arith}
use mathlib.Core.Path.{◌≡◌, sym, ap, ◌∙◌}
use mathlib.Core.List.{List, [], ◌∷◌, ◌++◌}
use lib.Pow.{pow_pos, pow-add}
use lib.Arith.{digits_div, digits_mod, digits_lt}
use Rattle.laws.specs.Reading.{number_at}
use Rattle.laws.specs.Record.{Field, bits, number, bytes_of}
use Rattle.laws.proofs.Bytes.{number-of-bytes}

-- each value fits its width
unfoldable pub Fit : List Field → Type 0
Fit [] = Unit {0}
Fit (f ∷ fs) = (f.value < 2 ^ f.width) × Fit fs

pub fit_append : (fs gs : List Field) → Fit fs → Fit gs → Fit (fs ++ gs)
unfolding Fit
fit_append [] gs a b = b
fit_append (f ∷ fs) gs a b = (a.0, fit_append fs gs a.1 b)

pub bits_append : (fs gs : List Field) → bits (fs ++ gs) ≡ bits fs + bits gs
unfolding bits
bits_append [] gs = sym (zero-add (bits gs))
bits_append (f ∷ fs) gs = rw (bits_append fs gs) (omega arith)

pub number_append : (fs gs : List Field) → number (fs ++ gs) ≡ number fs * 2 ^ bits gs + number gs
unfolding number
number_append [] gs = rw (zero-mul (2 ^ bits gs), zero-add (number gs))
number_append (f ∷ fs) gs =
    let a = 2 ^ bits fs in
    let b = 2 ^ bits gs in
    rw (number_append fs gs, bits_append fs gs, pow-add 2 (bits fs) (bits gs), add-mul (f.value * a) (number fs) b, mul_assoc f.value a b) (omega arith)

number_lt : (fs : List Field) → Fit fs → number fs < 2 ^ bits fs
unfolding number bits Fit
number_lt [] a = pow_pos 0
number_lt (f ∷ fs) a = rw (pow-add 2 f.width (bits fs)) (digits_lt a.0 (number_lt fs a.1))

-- the value of a field, written between others, comes back
pub read_back : (before : List Field) (f : Field) (behind : List Field) (n : ℕ) → Fit (f ∷ behind) → bits (before ++ f ∷ behind) ≡ 8 * n
    → number_at (bytes_of n (number (before ++ f ∷ behind))) (bits before) f.width ≡ f.value
unfolding number bits Fit
read_back before f behind n a e =
    let x : ℕ = number (before ++ f ∷ behind) in
    let room : bits before + f.width + bits behind ≡ 8 * n = omega (arith, bits_append before (f ∷ behind)) in
    let w = 2 ^ f.width in
    let b = 2 ^ bits behind in
    let split : x ≡ (number before * 2 ^ f.width + f.value) * 2 ^ bits behind + number behind =
    number_append before (f ∷ behind)
    ∙ rw (pow-add 2 f.width (bits behind), add-mul (number before * w) f.value b, mul_assoc (number before) w b) (omega arith)
    in
    number-of-bytes n x (bits before) f.width (bits behind) room
    ∙ ap (λ (y : ℕ). y / 2 ^ bits behind % 2 ^ f.width) split
    ∙ ap (λ (y : ℕ). y % 2 ^ f.width) (digits_div (number before * 2 ^ f.width + f.value) (number_lt behind a.1))
    ∙ digits_mod (number before) a.0
