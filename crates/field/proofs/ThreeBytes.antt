-- Three bytes hold any field of at most 16 bits; and the answers of a read, with what each says. Assumes nothing.
use Prim.Native.Nat.{ℕ, ◌+◌, ◌-◌, ◌*◌, ◌/◌, ◌%◌, ◌^◌, ◌≤◌, ◌<◌}
use native.Mathlib.Nat.{mod-lt, lt_of_lt_of_le}
use native.Mathlib.Omega.{arith}
use mathlib.Core.Path.{◌≡◌, sym, ap, ◌∙◌}
use mathlib.Core.Bool.{true, false, ◌&&◌}
use mathlib.Core.List.{List}
use borrow.Author.Tests.{le-leb, lt-leb, leb-true, leb-false}
use lib.Dec.{leb}
use lib.ListN.{length}
use lib.Pow.{pow_pos, pow_mono}
use Rattle.laws.specs.Reading.{number_at, Reading.found, Reading.refused as stopped, read}
use Rattle.laws.specs.Refusals.{Answer, refused, answered, placed, refused_at, given, record_ends}
use Rattle.laws.proofs.Tests.{by_test, and_right}
use Rattle.laws.proofs.Bits.{number_lt, number-add, number-within}
use Rattle.laws.proofs.Bytes.{number_byte}
use Rattle.field.specs.Field.{Byte, field_at}

-- three bytes as one number
pub number_three : (bytes : List ℕ) (q : ℕ) {a b c : ℕ} → Byte bytes q a → Byte bytes (q + 1) b → Byte bytes (q + 2) c → a * 65536 + b * 256 + c
    ≡ number_at bytes (8 * q) 24
number_three bytes q ha hb hc =
    let e : 8 * q + 8 ≡ 8 * (q + 1) = omega arith in
    let f : 8 * q + 16 ≡ 8 * (q + 2) = omega arith in
    let x = number_byte bytes q (rw ha.0 at ha.1) in
    let y = number_byte bytes (q + 1) (rw hb.0 at hb.1) in
    let z = number_byte bytes (q + 2) (rw hc.0 at hc.1) in
    sym
    (number-add bytes (8 * q) 16 8
    ∙ ap (λ (n : ℕ). n * 2 ^ 8 + number_at bytes (8 * q + 16) 8) (number-add bytes (8 * q) 8 8)
    ∙ rw (e, f, x, y, z, ← ha.0, ← hb.0, ← hc.0) (omega arith))

-- a field of at most 16 bits that starts in the first of them
pub window : (bytes : List ℕ) (q k w : ℕ) {x t m : ℕ} → k < 8 → w ≤ 16 → x ≡ number_at bytes (8 * q) 24 → t ≡ 2 ^ (24 - k - w) → m ≡ 2 ^ w
    → x / t % m ≡ number_at bytes (8 * q + k) w
window bytes q k w hk hw d e f =
    let all : k + w + (24 - k - w) ≡ 24 = omega arith in
    rw (d, e, f)
    (ap (λ (n : ℕ). number_at bytes (8 * q) n / 2 ^ (24 - k - w) % 2 ^ w) (sym all) ∙ number-within bytes (8 * q) k w (24 - k - w))

-- w bits that are left of a number fit 16 bits
pub window_lt : (x w : ℕ) {m : ℕ} → w ≤ 16 → m ≡ 2 ^ w → x % m < 2 ^ 16
window_lt x w h e = rw e (lt_of_lt_of_le (mod-lt x (pow_pos w)) (pow_mono h))

module _ (bytes : List ℕ) (at w : ℕ) where
  pub too_wide : 16 < w → refused record_ends ≡ field_at bytes at w
  unfolding field_at
  too_wide h = simp (lt-leb w 16 h)

  pub too_short : w ≤ 16 → 8 * length bytes < at + w → refused record_ends ≡ field_at bytes at w
  unfolding field_at
  too_short h l = simp (le-leb w 16 h, lt-leb (at + w) (8 * length bytes) l)

  pub whole : {v : ℕ} → v ≡ number_at bytes at w → w ≤ 16 → at + w ≤ 8 * length bytes → answered v ≡ field_at bytes at w
  unfolding field_at
  whole e h l = simp (le-leb w 16 h, le-leb (at + w) (8 * length bytes) l, e)

  -- Value has the number of the bits, which lie whole within the bytes
  pub value-is : {v : ℕ} → field_at bytes at w ≡ answered v → (v ≡ number_at bytes at w) × (at + w ≤ 8 * length bytes)
  unfolding field_at
  value-is {v} e =
      by_test (leb w 16 && leb (at + w) (8 * length bytes))
      (λ (q : (leb w 16 && leb (at + w) (8 * length bytes)) ≡ true).
      let z : answered (number_at bytes at w) ≡ answered v = rw q at e in
      (cc, leb-true (at + w) (8 * length bytes) (and_right (leb w 16) (leb (at + w) (8 * length bytes)) q)))
      (λ (q : (leb w 16 && leb (at + w) (8 * length bytes)) ≡ false).
      let z : refused record_ends ≡ answered v = rw q at e in
      let o : ◌≡◌ {A = ℕ} 0 1 = cc in
      absurd (omega arith))

  pub value_lt : {v : ℕ} → field_at bytes at w ≡ answered v → v < 2 ^ w
  value_lt e = rw (value-is e).0 (number_lt bytes at w)

  -- Value says that the field was read, and the bit behind it
  pub value-reads : {v : ℕ} → field_at bytes at w ≡ answered v → read w bytes at ≡ found v (at + w)
  unfolding read
  value-reads e = rw (le-leb (at + w) (8 * length bytes) (value-is e).1, (value-is e).0)

  -- Short says, of a field of at most 16 bits, that the record ends before it is whole
  pub short-is : w ≤ 16 → field_at bytes at w ≡ refused record_ends → 8 * length bytes < at + w
  unfolding field_at
  short-is h e =
      by_test (leb (at + w) (8 * length bytes))
      (λ (q : leb (at + w) (8 * length bytes) ≡ true).
      let z : answered (number_at bytes at w) ≡ refused record_ends = rw (le-leb w 16 h, q) at e in
      let o : ◌≡◌ {A = ℕ} 0 1 = cc in
      absurd (omega arith))
      (λ (q : leb (at + w) (8 * length bytes) ≡ false). leb-false (at + w) (8 * length bytes) q)

  pub short_stops : w ≤ 16 → field_at bytes at w ≡ refused record_ends → read w bytes at ≡ stopped record_ends 0
  unfolding read
  short_stops h e = rw (lt-leb (at + w) (8 * length bytes) (short-is h e))

  -- ---- what the code answers of the field
  value : {v : ℕ} → given v ≡ placed (field_at bytes at w) → field_at bytes at w ≡ answered v
  value e = go (field_at bytes at w) e
    where
      go : (a : Answer ℕ) {v : ℕ} → given v ≡ placed a → a ≡ answered v
      go (refused n) e = absurd cc
      go (answered u) e = cc

  no_value : {n place : ℕ} → refused_at n place ≡ placed (field_at bytes at w) → (field_at bytes at w ≡ refused n) × (place ≡ 0)
  no_value e = go (field_at bytes at w) e
    where
      go : (a : Answer ℕ) {n place : ℕ} → refused_at n place ≡ placed a → (a ≡ refused n) × (place ≡ 0)
      go (refused n) e = (cc, cc)
      go (answered u) e = absurd cc

  -- a value is the number of the bits, which lie whole within the bytes
  pub given-is : {v : ℕ} → given v ≡ placed (field_at bytes at w) → (v ≡ number_at bytes at w) × (at + w ≤ 8 * length bytes)
  given-is e = value-is (value e)

  pub given_lt : {v : ℕ} → given v ≡ placed (field_at bytes at w) → v < 2 ^ w
  given_lt e = value_lt (value e)

  -- the field was read, and the bit behind it
  pub given-reads : {v : ℕ} → given v ≡ placed (field_at bytes at w) → read w bytes at ≡ found v (at + w)
  given-reads e = value-reads (value e)

  -- a refusal is the Laws', of a field of at most 16 bits
  pub refused_stops : w ≤ 16 → {n place : ℕ} → refused_at n place ≡ placed (field_at bytes at w) → read w bytes at ≡ stopped n place
  unfolding field_at
  refused_stops h {n} {place} e =
      let f = no_value e in
      by_test (leb (at + w) (8 * length bytes))
      (λ (q : leb (at + w) (8 * length bytes) ≡ true). absurd (let z = rw (le-leb w 16 h, q) at f.0 in cc))
      (λ (q : leb (at + w) (8 * length bytes) ≡ false).
      let z : refused record_ends ≡ refused n = rw (le-leb w 16 h, q) at f.0 in
      let same : record_ends ≡ n = same_number z in
      rw (← same, f.1) (short_stops h (f.0 ∙ sym z)))
    where
      same_number : {a b : ℕ} → ◌≡◌ {A = Answer ℕ} (refused a) (refused b) → a ≡ b
      same_number z = cc

  pub refused_short : w ≤ 16 → {n place : ℕ} → refused_at n place ≡ placed (field_at bytes at w) → 8 * length bytes < at + w
  unfolding field_at
  refused_short h e =
      let f = no_value e in
      by_test (leb (at + w) (8 * length bytes))
      (λ (q : leb (at + w) (8 * length bytes) ≡ true). absurd (let z = rw (le-leb w 16 h, q) at f.0 in cc))
      (λ (q : leb (at + w) (8 * length bytes) ≡ false). leb-false (at + w) (8 * length bytes) q)
