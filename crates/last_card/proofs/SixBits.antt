-- Codes of six bits by two bytes, and how many of them are whole. Assumes nothing.
use Prim.Native.Nat.{ℕ, zero, suc, ◌≤◌, ◌<◌, ◌+◌, ◌-◌, ◌*◌, ◌/◌, ◌%◌, ◌^◌, min}
use native.Mathlib.Omega.{arith}
use mathlib.Core.Path.{◌≡◌, sym, ap, ◌∙◌}
use mathlib.Core.Bool.{true, false}
use mathlib.Core.List.{List}
use lib.ListN.{length}
use lib.Dec.{ltb}
use borrow.Author.Tests.{ltb-true, ltb-false}
use Rattle.laws.proofs.Tests.{by_test}
use Rattle.laws.specs.Reading.{number_at, Reading.found, Reading.refused, read}
use Rattle.laws.specs.Refusals.{record_ends}
use Rattle.laws.proofs.Bits.{number-add, number-within}
use Rattle.laws.proofs.Bytes.{number_byte}
use Rattle.laws.proofs.Readings.{read_is, read_short}
use Rattle.field.specs.Field.{Byte}

-- two bytes as one number
number-two : (bytes : List ℕ) (q : ℕ) {a b : ℕ} → Byte bytes q a → Byte bytes (q + 1) b → a * 256 + b ≡ number_at bytes (8 * q) 16
number-two bytes q ha hb =
    let e : 8 * q + 8 ≡ 8 * (q + 1) = omega arith in
    let x = number_byte bytes q (rw ha.0 at ha.1) in
    let y = number_byte bytes (q + 1) (rw hb.0 at hb.1) in
    sym (number-add bytes (8 * q) 8 8 ∙ rw (e, x, y, ← ha.0, ← hb.0) (omega arith))

-- the code that ends with a bit, by the byte of that bit and the one before
code_is : (bytes : List ℕ) (last : ℕ) {a b : ℕ} → 8 ≤ last → Byte bytes (last / 8 - 1) a → Byte bytes (last / 8) b
    → (a * 256 + b) / 2 ^ (7 - last % 8) % 64 ≡ number_at bytes (last - 5) 6
code_is bytes last {a} {b} h ha hb =
    let q = last / 8 - 1 in
    let next : last / 8 ≡ q + 1 = omega arith in
    let all : 3 + last % 8 + 6 + (7 - last % 8) ≡ 16 = omega arith in
    let from : 8 * q + (3 + last % 8) ≡ last - 5 = omega arith in
    let two = number-two bytes q ha (rw next at hb) in
    rw (two, ← all, ← from) (number-within bytes (8 * q) (3 + last % 8) 6 (7 - last % 8))

-- a code within the first byte, which then stands for the one before too
drop_high : (b k : ℕ) → k ≤ 2 → (b * 256 + b) / 2 ^ k % 64 ≡ b / 2 ^ k % 64
drop_high b zero h = omega arith
drop_high b (suc zero) h = omega arith
drop_high b (suc (suc zero)) h = omega arith
drop_high b (suc (suc (suc k))) h = absurd (omega arith)

first_code : (bytes : List ℕ) (last : ℕ) {b : ℕ} → 5 ≤ last → last < 8 → Byte bytes 0 b
    → (b * 256 + b) / 2 ^ (7 - last % 8) % 64 ≡ number_at bytes (last - 5) 6
first_code bytes last {b} h k hb =
    let all : last - 5 + 6 + (7 - last % 8) ≡ 8 = omega arith in
    let from : 8 * 0 + (last - 5) ≡ last - 5 = omega arith in
    let x : number_at bytes (8 * 0) 8 ≡ b = number_byte bytes 0 (rw hb.0 at hb.1) ∙ sym hb.0 in
    drop_high b (7 - last % 8) (omega arith)
    ∙ ap (λ (n : ℕ). n / 2 ^ (7 - last % 8) % 64) (sym x ∙ ap (number_at bytes (8 * 0)) (sym all))
    ∙ number-within bytes (8 * 0) (last - 5) 6 (7 - last % 8)
    ∙ ap (λ (at : ℕ). number_at bytes at 6) from

-- the code that ends with a bit, by the byte of that bit and the one before, where there is one
pub code_ending_is : (bytes : List ℕ) (last : ℕ) {a b : ℕ} → 5 ≤ last → Byte bytes (last / 8 - 1) a → Byte bytes (last / 8) b
    → (a * 256 + b) / 2 ^ (7 - last % 8) % 64 ≡ number_at bytes (last - 5) 6
code_ending_is bytes last {a} {b} h ha hb =
    by_test (ltb last 8)
    (λ (q : ltb last 8 ≡ true).
    let low = ltb-true last 8 q in
    let z : last / 8 ≡ 0 = omega arith in
    let same : a ≡ b = ha.0 ∙ rw z (sym (rw z at hb.0)) in
    rw same (first_code bytes last h low (rw z at hb)))
    (λ (q : ltb last 8 ≡ false). code_is bytes last (ltb-false last 8 q) ha hb)

-- ---- the codes that are whole
module _ (l at n : ℕ) {r : ℕ} (e : r ≡ min ((8 * l - at) / 6) n) where
  pub whole-most : r ≤ n
  whole-most = omega (arith, e)

  pub whole_in : (i : ℕ) → i < r → at + 6 * i + 6 ≤ 8 * l
  whole_in i h = omega (arith, e)

  pub whole_out : r < n → 8 * l < at + 6 * r + 6
  whole_out h = omega (arith, e)

-- a code that is whole is read, and the one behind the last is not
pub code_read : (bytes : List ℕ) (here : ℕ) {c : ℕ} → c ≡ number_at bytes (here + 5 - 5) 6 → here + 6 ≤ 8 * length bytes → read 6 bytes here ≡ found c (here + 6)
code_read bytes here e h = let same : here + 5 - 5 ≡ here = omega arith in read_is 6 bytes here (sym (rw same at e)) h

pub code_short : (bytes : List ℕ) (here : ℕ) → 8 * length bytes < here + 6 → read 6 bytes here ≡ refused record_ends 0
code_short bytes here h = read_short 6 bytes here h
