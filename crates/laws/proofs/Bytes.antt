-- Laws of whole bytes: a byte is the number of its eight bits, and the bytes of a number give back its bits.
-- Assumes nothing.
use Prim.Native.Nat.{ℕ, zero, suc, ◌+◌, ◌-◌, ◌*◌, ◌/◌, ◌%◌, ◌^◌, ◌≤◌, ◌<◌}
use native.Mathlib.Nat.{zero-add, add_assoc, mod-lt, mod-one, pow-suc, div-one, div-eq_of_lt, div-add-mod', div-div-eq-div-mul}
use native.Mathlib.Omega.{arith}
use mathlib.Core.Path.{◌≡◌, refl, sym, ap, ◌∙◌}
use mathlib.Core.List.{List, ◌∷◌}
use lib.ListN.{length, get_or}
use lib.Dec.{lit<, lit≤}
use lib.Pow.{mod-pow-add}
use lib.Pow as P
use lib.Seq.{ext_get_or}
use Rattle.laws.specs.Reading.{bit_at, number_at}
use Rattle.laws.specs.Bytes.{Bytes}
use Rattle.laws.specs.Record.{bytes_of}
use Rattle.laws.proofs.Bits.{number-add, number-within}

module _ (bytes : List ℕ) (q : ℕ) where
  bit_in : (j : ℕ) → j < 8 → bit_at bytes (8 * q + j) ≡ get_or bytes q 0 / 2 ^ (7 - j) % 2
  unfolding bit_at
  bit_in j h =
      let a : (8 * q + j) / 8 ≡ q = omega arith in
      let b : (8 * q + j) % 8 ≡ j = omega arith in
      rw (a, b)

  -- the first j bits of a byte
  front : (j : ℕ) → get_or bytes q 0 < 256 → j ≤ 8 → number_at bytes (8 * q) j ≡ get_or bytes q 0 / 2 ^ (8 - j)
  unfolding number_at
  front zero small h = sym (div-eq_of_lt small)
  front (suc j) small h =
      let more : 8 - suc j ≡ 7 - j = omega arith in
      let less : 8 - j ≡ suc (7 - j) = omega arith in
      rw (front j small (omega arith), bit_in j h, more, less, pow-suc 2 (7 - j), ← div-div-eq-div-mul (get_or bytes q 0) (2 ^ (7 - j)) 2)
      (div-add-mod' (get_or bytes q 0 / 2 ^ (7 - j)) 2)

  pub number_byte : get_or bytes q 0 < 256 → number_at bytes (8 * q) 8 ≡ get_or bytes q 0
  number_byte small = front 8 small (lit≤ tt) ∙ div-one (get_or bytes q 0)

-- a byte in front moves each bit by eight
bit_cons : (b : ℕ) (bytes : List ℕ) (i : ℕ) → bit_at (b ∷ bytes) (8 + i) ≡ bit_at bytes i
unfolding bit_at
bit_cons b bytes i =
    let p : (8 + i) / 8 ≡ suc (i / 8) = omega arith in
    let q : (8 + i) % 8 ≡ i % 8 = omega arith in
    rw (p, q)

number_cons : (b : ℕ) (bytes : List ℕ) (at w : ℕ) → number_at (b ∷ bytes) (8 + at) w ≡ number_at bytes at w
unfolding number_at
number_cons b bytes at zero = refl
number_cons b bytes at (suc w) = rw (number_cons b bytes at w, add_assoc 8 at w, bit_cons b bytes (at + w))

pub length-bytes : (n x : ℕ) → length (bytes_of n x) ≡ n
unfolding bytes_of
length-bytes zero x = refl
length-bytes (suc n) x = ap suc (length-bytes n x)

pub bytes-of : (n x : ℕ) → Bytes (bytes_of n x)
unfolding bytes_of
bytes-of zero x i = lit< tt
bytes-of (suc n) x zero = mod-lt (x / 2 ^ (8 * n)) (lit< tt)
bytes-of (suc n) x (suc i) = bytes-of n x i

-- the last n bytes of a number, as one number
number-bytes : (n x : ℕ) → number_at (bytes_of n x) 0 (8 * n) ≡ x % 2 ^ (8 * n)
unfolding bytes_of number_at
number-bytes zero x = sym (mod-one x)
number-bytes (suc n) x =
    let b : ℕ = x / 2 ^ (8 * n) % 256 in
    let e : 8 * suc n ≡ 8 + 8 * n = omega arith in
    rw e
    (number-add (b ∷ bytes_of n x) 0 8 (8 * n)
    ∙ ap (λ (y : ℕ). y * 2 ^ (8 * n) + number_at (b ∷ bytes_of n x) 8 (8 * n)) (number_byte (b ∷ bytes_of n x) 0 (mod-lt (x / 2 ^ (8 * n)) (lit< tt)))
    ∙ ap (λ (y : ℕ). b * 2 ^ (8 * n) + y) (number_cons b (bytes_of n x) 0 (8 * n) ∙ number-bytes n x)
    ∙ sym (mod-pow-add x 8 (8 * n)))

-- any w bits of a number's bytes, with t bits behind them
pub number-of-bytes : (n x at w t : ℕ) → at + w + t ≡ 8 * n → number_at (bytes_of n x) at w ≡ x / 2 ^ t % 2 ^ w
number-of-bytes n x at w t e =
    ap (λ (k : ℕ). number_at (bytes_of n x) k w) (sym (zero-add at))
    ∙ sym (number-within (bytes_of n x) 0 at w t)
    ∙ ap (λ (k : ℕ). number_at (bytes_of n x) 0 k / 2 ^ t % 2 ^ w) e
    ∙ ap (λ (y : ℕ). y / 2 ^ t % 2 ^ w) (number-bytes n x)
    ∙ ap (λ (k : ℕ). x % 2 ^ k / 2 ^ t % 2 ^ w) (sym e)
    ∙ ap (λ (y : ℕ). y % 2 ^ w) (P.field x (at + w) t)
    ∙ P.mod-mod-pow (x / 2 ^ t) at w

-- bytes are the bytes of the number that they make
pub bytes_whole : (bytes : List ℕ) → Bytes bytes → bytes ≡ bytes_of (length bytes) (number_at bytes 0 (8 * length bytes))
bytes_whole bytes small = ext_get_or 0 bytes (bytes_of n x) (sym (length-bytes n x)) same
  where
    n : ℕ
    n = length bytes

    x : ℕ
    x = number_at bytes 0 (8 * n)

    same : (i : ℕ) → i < length bytes → get_or bytes i 0 ≡ get_or (bytes_of n x) i 0
    same i h =
        let t : ℕ = 8 * length bytes - 8 * i - 8 in
        let all : 8 * i + 8 + t ≡ 8 * length bytes = omega arith in
        sym (number_byte bytes i (small i))
        ∙ ap (λ (k : ℕ). number_at bytes k 8) (sym (zero-add (8 * i)))
        ∙ sym (number-within bytes 0 (8 * i) 8 t)
        ∙ ap (λ (k : ℕ). number_at bytes 0 k / 2 ^ t % 2 ^ 8) all
        ∙ sym (number-of-bytes n x (8 * i) 8 t all)
        ∙ number_byte (bytes_of n x) i (bytes-of n x i)
