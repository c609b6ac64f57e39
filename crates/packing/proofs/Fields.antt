-- Fields whose values fit, put one after the other where there is room for them, leave the bytes of the number that they make.
-- Assumes nothing.
use Prim.Native.Nat.{ℕ, zero, suc, ◌+◌, ◌-◌, ◌*◌, ◌/◌, ◌%◌, ◌^◌, ◌≤◌, ◌<◌, min}
use native.Mathlib.Nat.{zero-add, add-zero, add_comm, suc-add, mod-mod, div-one, mod-eq_of_lt}
use native.Mathlib.Omega.{arith}
use mathlib.Core.Path.{◌≡◌, refl, sym, ap, ◌∙◌}
use mathlib.Core.List.{List, [], ◌∷◌, ◌++◌, append_assoc, append-nil}
use borrow.Author.Tests.{le-leb}
use lib.ListN.{length, drop, length-append, length-drop}
use lib.Pow as P
use lib.Pow.{shr-shr, high, low, mod-pow-add, mod-mod-pow}
use lib.Seq.{sets, sets-eq, take_at, drop-append-add, drop-drop}
use Rattle.laws.specs.Record.{Field, bits, number, bytes_of, padding, padded, packed}
use Rattle.laws.specs.Lent.{◌over◌}
use Rattle.laws.proofs.Bytes.{length-bytes}
use Rattle.laws.proofs.Written.{Fit, bits_append, number_append}
use Rattle.packing.specs.declared.Packer.{Packer}
use Rattle.packing.specs.Packed.{new_packer, waiting, joined, packer_after, bytes_after, packer_after_all, bytes_after_all, bytes_finished, bytes_packed}

-- ---- the last bytes of a number
-- the first of them are those of the number without its last bytes
bytes_append : (n k x : ℕ) → bytes_of (n + k) x ≡ bytes_of n (x / 2 ^ (8 * k)) ++ bytes_of k x
unfolding bytes_of
bytes_append zero k x = rw (zero-add k)
bytes_append (suc n) k x =
    let e : 8 * k + 8 * n ≡ 8 * (n + k) = omega arith in
    rw (suc-add n k, bytes_append n k x, shr-shr x (8 * k) (8 * n), e)

-- nothing before them counts
bytes_mod : (k x : ℕ) → bytes_of k (x % 2 ^ (8 * k)) ≡ bytes_of k x
unfolding bytes_of
bytes_mod zero x = refl
bytes_mod (suc k) x =
    let e : 8 * suc k ≡ 8 + 8 * k = omega arith in
    let first : x % 2 ^ (8 + 8 * k) / 2 ^ (8 * k) % 256 ≡ x / 2 ^ (8 * k) % 256 = rw (P.field x 8 (8 * k)) (mod-mod (x / 2 ^ (8 * k)) 256) in
    let others : bytes_of k (x % 2 ^ (8 + 8 * k)) ≡ bytes_of k x =
    sym (bytes_mod k (x % 2 ^ (8 + 8 * k))) ∙ ap (bytes_of k) (mod-mod-pow x 8 (8 * k)) ∙ bytes_mod k x in
    rw (e, first, others)

-- ---- bytes over the front of a buffer
pub length_over : (front old : List ℕ) → length front ≤ length old → length (front over old) ≡ length old
unfolding ◌over◌
length_over front old h = simp (length-append, length-drop) (omega arith)

-- bytes stored behind the front
sets_over : (front vs old : List ℕ) {at : ℕ} → length front ≡ at → at + length vs ≤ length old → sets (front over old) at vs ≡ (front ++ vs) over old
unfolding ◌over◌
sets_over front vs old {at} e h =
    let long : length (front over old) ≡ length old = length_over front old (omega arith) in
    sets-eq vs (front over old) at (omega arith)
    ∙ rw (
      ← e,
      take_at front (drop (length front) old) (length front) refl,
      drop-append-add front (drop (length front) old) (length vs),
      drop-drop (length vs) (length front) old,
      length-append front vs,
      append_assoc front vs,
    )

-- ---- the packer and the buffer once fields are put
-- the whole bytes of the number that the fields make, and the bits behind them
unfoldable pub packer_of : List Field → Packer
packer_of fs = record { at = bits fs / 8; pending = number fs % 2 ^ (bits fs % 8); count = bits fs % 8 }

unfoldable pub left_by : List Field → List ℕ → List ℕ
left_by fs old = bytes_of (bits fs / 8) (number fs / 2 ^ (bits fs % 8)) over old

-- each field has at most 16 bits
unfoldable pub Narrow : List Field → Type 0
Narrow [] = Unit {0}
Narrow (f ∷ fs) = (f.width ≤ 16) × Narrow fs

-- ---- one field more
same_packer : {a b c d e g : ℕ} → a ≡ b → c ≡ d → e ≡ g
    → ◌≡◌ {A = Packer} (record { at = a; pending = c; count = e }) (record { at = b; pending = d; count = g })
same_packer p q r = rw (p, q, r)

-- a field of at most 16 bits, the number of bits that then wait, and their number
after : (room : ℕ) (p : Packer) (f : Field) → f.width ≤ 16 → {u x : ℕ} → waiting p f ≡ u → joined p f ≡ x
    → packer_after room p f ≡ record { at = p.at + min (u / 8) (room - p.at); pending = x % 2 ^ (u % 8); count = u % 8 }
unfolding packer_after
after room p f h e g = rw (le-leb f.width 16 h, e, g)

after-bytes : (p : Packer) (f : Field) (out : List ℕ) → f.width ≤ 16 → {u x : ℕ} → waiting p f ≡ u → joined p f ≡ x
    → bytes_after p f out ≡ sets out p.at (bytes_of (u / 8) (x / 2 ^ (u % 8)))
unfolding bytes_after
after-bytes p f out h e g = rw (le-leb f.width 16 h, e, g)

module _ (fs : List Field) (f : Field) where
  bits-more : bits (fs ++ f ∷ []) ≡ bits fs + f.width
  unfolding bits
  bits-more = bits_append fs (f ∷ []) ∙ rw (add-zero f.width)

  number_more : number (fs ++ f ∷ []) ≡ number fs * 2 ^ f.width + f.value
  unfolding number bits
  number_more = number_append fs (f ∷ []) ∙ rw (add-zero f.width) (omega arith)

module _ (fs : List Field) (f : Field) (fits : f.value < 2 ^ f.width) where
  -- the bits that wait and the field's, as a number of so many bits
  waits : waiting (packer_of fs) f ≡ bits fs % 8 + f.width
  unfolding waiting packer_of
  waits = rw (mod-mod (bits fs) 8)

  joins : joined (packer_of fs) f ≡ number (fs ++ f ∷ []) % 2 ^ (bits fs % 8 + f.width)
  unfolding joined packer_of
  joins =
      let n = number fs in
      let w = f.width in
      let v = f.value in
      let k = bits fs % 8 in
      rw (mod-eq_of_lt fits, number_more fs f, mod-pow-add (n * 2 ^ w + v) k w, high n w fits, low n w fits)

  -- without them the number is what it was
  above : number (fs ++ f ∷ []) / 2 ^ (bits fs % 8 + f.width) ≡ number fs / 2 ^ (bits fs % 8)
  above =
      let n = number fs in
      let w = f.width in
      let k = bits fs % 8 in
      rw (number_more fs f, add_comm k w, ← shr-shr (n * 2 ^ w + f.value) w k, high n w fits)

  module _ (narrow : f.width ≤ 16) (old : List ℕ) (room : bits (fs ++ f ∷ []) / 8 ≤ length old) where
    pub put_packer : packer_after (length old) (packer_of fs) f ≡ packer_of (fs ++ f ∷ [])
    unfolding packer_of
    put_packer =
        let n = bits-more fs f in
        let u : ℕ = bits fs % 8 + f.width in
        let whole : u ≡ 8 * (u / 8) + u % 8 = omega arith in
        let rest : bits (fs ++ f ∷ []) % 8 ≡ u % 8 = omega arith in
        let last : number (fs ++ f ∷ []) % 2 ^ u % 2 ^ (u % 8) ≡ number (fs ++ f ∷ []) % 2 ^ (bits (fs ++ f ∷ []) % 8) =
        ap (λ (k : ℕ). number (fs ++ f ∷ []) % 2 ^ k % 2 ^ (u % 8)) whole ∙ mod-mod-pow (number (fs ++ f ∷ [])) (8 * (u / 8)) (u % 8) ∙ rw rest in
        after (length old) (packer_of fs) f narrow waits joins ∙ same_packer (omega arith) last (omega arith)

    pub put_bytes : bytes_after (packer_of fs) f (left_by fs old) ≡ left_by (fs ++ f ∷ []) old
    unfolding packer_of left_by
    put_bytes =
        let n = bits-more fs f in
        let x : ℕ = number (fs ++ f ∷ []) in
        let u : ℕ = bits fs % 8 + f.width in
        let k : ℕ = u / 8 in
        let e : ℕ = u % 8 in
        let whole : u ≡ 8 * k + e = omega arith in
        let rest : bits (fs ++ f ∷ []) % 8 ≡ e = omega arith in
        let all : bits (fs ++ f ∷ []) / 8 ≡ bits fs / 8 + k = omega arith in
        let front : List ℕ = bytes_of (bits fs / 8) (number fs / 2 ^ (bits fs % 8)) in
        let behind : List ℕ = bytes_of k (x / 2 ^ e) in
        let long : length front ≡ bits fs / 8 = length-bytes (bits fs / 8) (number fs / 2 ^ (bits fs % 8)) in
        let short : length behind ≡ k = length-bytes k (x / 2 ^ e) in
        let new : bytes_of k (x % 2 ^ u / 2 ^ e) ≡ behind =
        ap (λ (j : ℕ). bytes_of k (x % 2 ^ j / 2 ^ e)) whole ∙ ap (bytes_of k) (P.field x (8 * k) e) ∙ bytes_mod k (x / 2 ^ e) in
        let before : x / 2 ^ e / 2 ^ (8 * k) ≡ number fs / 2 ^ (bits fs % 8) =
        shr-shr x e (8 * k) ∙ ap (λ (j : ℕ). x / 2 ^ j) (add_comm e (8 * k) ∙ sym whole) ∙ above in
        let joint : front ++ behind ≡ bytes_of (bits (fs ++ f ∷ []) / 8) (x / 2 ^ (bits (fs ++ f ∷ []) % 8)) =
        sym (rw (rest, all, ← before) (bytes_append (bits fs / 8) k (x / 2 ^ e))) in
        let stored : sets (front over old) (bits fs / 8) (bytes_of k (x % 2 ^ u / 2 ^ e)) ≡ (front ++ behind) over old =
        rw new (sets_over front behind old long (omega arith)) in
        after-bytes (packer_of fs) f (front over old) narrow waits joins ∙ stored ∙ ap (λ (l : List ℕ). l over old) joint

-- ---- fields in a row
module _ (old : List ℕ) where
  length-left : (fs : List Field) → bits fs / 8 ≤ length old → length (left_by fs old) ≡ length old
  unfolding left_by
  length-left fs h =
      let n = length-bytes (bits fs / 8) (number fs / 2 ^ (bits fs % 8)) in
      length_over (bytes_of (bits fs / 8) (number fs / 2 ^ (bits fs % 8))) old (omega arith)

  pub put_all : (fs gs : List Field) → Fit gs → Narrow gs → bits (fs ++ gs) / 8 ≤ length old
      → (packer_after_all (length old) (packer_of fs) gs ≡ packer_of (fs ++ gs)) × (bytes_after_all (packer_of fs) gs (left_by fs old) ≡ left_by (fs ++ gs) old)
  unfolding packer_after_all bytes_after_all Fit Narrow bits
  put_all fs [] a b room = (rw (append-nil fs), rw (append-nil fs))
  put_all fs (g ∷ gs) a b room =
      let same : (fs ++ g ∷ []) ++ gs ≡ fs ++ g ∷ gs = append_assoc fs (g ∷ []) gs in
      let fewer : bits (fs ++ g ∷ []) / 8 ≤ length old =
      omega (arith, bits_append (fs ++ g ∷ []) gs, ap bits same) in
      let left : bytes_after (packer_of fs) g (left_by fs old) ≡ left_by (fs ++ g ∷ []) old = put_bytes fs g a.0 b.0 old fewer in
      let long = length-left fs (omega (arith, bits-more fs g)) in
      let next = put_all (fs ++ g ∷ []) gs a.1 b.1 (rw same room) in
      (rw (put_packer fs g a.0 b.0 old fewer, next.0, same), rw (long, put_packer fs g a.0 b.0 old fewer, left, next.1, same))

-- ---- the beginning and the end
new_packer_lem : packer_of [] ≡ new_packer
unfolding packer_of bits number
new_packer_lem = refl

new_left : (old : List ℕ) → left_by [] old ≡ old
unfolding left_by bits number bytes_of ◌over◌
new_left old = refl

packed-length : (fs : List Field) → length (packed (padded fs)) ≡ bits (padded fs) / 8
unfolding packed
packed-length fs = length-bytes (bits (padded fs) / 8) (number (padded fs))

padded-more : (fs : List Field) → bits fs ≤ bits (padded fs)
unfolding padded
padded-more fs = omega (arith, bits-more fs (padding (bits fs)))

-- whole bytes, and no bit behind them
whole-left : (fs : List Field) (old : List ℕ) → left_by (padded fs) old ≡ packed (padded fs) over old
unfolding left_by packed padded padding
whole-left fs old =
    let none : bits (padded fs) % 8 ≡ 0 = omega (arith, bits-more fs (padding (bits fs))) in
    rw (none, div-one (number (padded fs)))

fills : (fs : List Field) (old : List ℕ) → bits (padded fs) / 8 ≤ length old → bytes_finished (packer_of fs) (left_by fs old) ≡ left_by (padded fs) old
unfolding bytes_finished padded padding packer_of
fills fs old room =
    let last : Field = padding (bits fs) in
    let same : (8 - bits fs % 8 % 8) % 8 ≡ (8 - bits fs % 8) % 8 = rw (mod-mod (bits fs) 8) in
    rw same (put_bytes fs last (P.pow_pos last.width) (omega arith) old room)

-- the last byte filled up: the bytes of the fields over the buffer's front
pub finish_bytes : (fs : List Field) (old : List ℕ) → length (packed (padded fs)) ≤ length old
    → bytes_finished (packer_of fs) (left_by fs old) ≡ packed (padded fs) over old
finish_bytes fs old room = fills fs old (omega (arith, packed-length fs)) ∙ whole-left fs old

-- from a new packer to the end
pub packed-over : (fs : List Field) (old : List ℕ) → Fit fs → Narrow fs → length (packed (padded fs)) ≤ length old
    → bytes_packed fs old ≡ packed (padded fs) over old
unfolding bytes_packed
packed-over fs old a b room =
    let n : length (packed (padded fs)) ≡ bits (padded fs) / 8 = packed-length fs in
    let fewer : bits fs / 8 ≤ length old = omega (arith, padded-more fs) in
    let all = rw (new_packer_lem, new_left old) at (put_all old [] fs a b fewer) in
    rw (all.0, all.1) (finish_bytes fs old room)
