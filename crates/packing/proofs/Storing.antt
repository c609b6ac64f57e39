-- Bytes stored from a place on, and a field put: what the code computes is what the definitions say. Assumes nothing.
use Prim.Native.Nat.{ℕ, ◌+◌, ◌-◌, ◌*◌, ◌/◌, ◌%◌, ◌^◌, ◌≤◌, ◌<◌, min}
use native.Mathlib.Nat.{div-one, mod-eq_of_lt, one-mul}
use native.Mathlib.Numerals.{add-one}
use native.Mathlib.Omega.{arith}
use mathlib.Core.Path.{◌≡◌, sym, ap, ◌∙◌}
use mathlib.Core.Bool.{true, false}
use mathlib.Core.List.{List}
use borrow.Author.Tests.{le-leb, lt-leb, ltb-true, ltb-false}
use lib.Dec.{ltb}
use lib.ListN.{length, set, length-set}
use lib.Pow.{pow-lt}
use lib.Seq.{sets, set_out}
use Rattle.laws.specs.Record.{field, bytes_of}
use Rattle.laws.proofs.Tests.{by_test}
use Rattle.packing.specs.declared.Packer.{Packer}
use Rattle.packing.specs.Packed.{waiting, joined, packer_after, bytes_after}

-- the next place, and what is stored
abbrev Stored : List ℕ → ℕ → ℕ → ℕ → ℕ → List ℕ → Type 0
Stored out at bytes number next left = (next ≡ at + min bytes (length out - at)) × (left ≡ sets out at (bytes_of bytes number))

module _ (out : List ℕ) (at number : ℕ) where
  pub stored_none : {bytes : ℕ} → bytes ≡ 0 → Stored out at bytes number at out
  unfolding bytes_of
  stored_none e = (omega arith, rw e)

  pub stored_one : {bytes b next : ℕ} {left : List ℕ} → bytes ≡ 1 → b ≡ number % 256 → next ≡ at + min 1 (length out - at) → left ≡ set out at b
      → Stored out at bytes number next left
  unfolding bytes_of
  stored_one e f n l = (omega arith, rw (l, e, f, div-one number))

  -- a second store, behind the first where that had a place, and else without a place too
  second : (a b : ℕ) {next : ℕ} → next ≡ at + min 1 (length out - at) → set (set out at a) next b ≡ set (set out at a) (at + 1) b
  second a b {next} n =
      by_test (ltb at (length out))
      (λ (q : ltb at (length out) ≡ true). let e : next ≡ at + 1 = omega (arith, ltb-true at (length out) q) in rw e)
      (λ (q : ltb at (length out) ≡ false).
      let h : length out ≤ at = ltb-false at (length out) q in
      let same : length (set out at a) ≡ length out = length-set out at a in
      set_out (set out at a) next b (omega arith) ∙ sym (set_out (set out at a) (at + 1) b (omega arith)))

  pub stored_two : {bytes a b next last : ℕ} {between left : List ℕ} → bytes ≡ 2 → a ≡ number / 256 % 256 → b ≡ number % 256
      → next ≡ at + min 1 (length out - at) → between ≡ set out at a → last ≡ next + min 1 (length between - next) → left ≡ set between next b
      → Stored out at bytes number last left
  unfolding bytes_of
  stored_two {bytes} {a} {b} {next} {last} {between} {left} e f g n i l j =
      let same = length-set out at a in
      let between-long = ap length i ∙ same in
      let stores : left ≡ set (set out at a) (at + 1) b = j ∙ rw i (second a b n) in
      (omega arith, stores ∙ rw (e, f, g, add-one at, div-one number))

-- of a power of two that 64 bits hold nothing is shifted out
pub power_kept : (w : ℕ) → w ≤ 16 → 1 * 2 ^ w % 2 ^ 64 ≡ 2 ^ w
power_kept w h = rw (one-mul (2 ^ w)) (mod-eq_of_lt (pow-lt {j = 64} (omega arith)))

module _ (out : List ℕ) (p : Packer) (w v : ℕ) where
  -- what putting a field leaves
  abbrev Put : Packer → List ℕ → Type 0
  Put q left = (q ≡ packer_after (length out) p (field w v)) × (left ≡ bytes_after p (field w v) out)

  pub put_wide : 16 < w → Put p out
  unfolding packer_after bytes_after
  put_wide h = (simp (lt-leb w 16 h), simp (lt-leb w 16 h))

  pub put_narrow : w ≤ 16 → {a b c m next d : ℕ} {left : List ℕ} → a ≡ p.pending → b ≡ 2 ^ w → c ≡ 2 ^ w → m ≡ 2 ^ ((p.count % 8 + w) % 8)
      → Stored out p.at ((p.count % 8 + w) / 8) ((a * b + v % c) / 2 ^ ((p.count % 8 + w) % 8)) next left → d ≡ (a * b + v % c) % m
      → Put (record { at = next; pending = d; count = (p.count % 8 + w) % 8 }) left
  unfolding packer_after bytes_after waiting joined
  put_narrow h ea eb ec em s ed = (rw (le-leb w 16 h, s.0, ed, em, ea, eb, ec), rw (le-leb w 16 h, s.1, ea, eb, ec))
