-- The fields of a layout as they stand in a list of bytes: with zero padding they determine the bytes, and in the bytes that they make they stand.
-- Behind these laws nothing speaks of bits. Assumes nothing.
use Prim.Native.Nat.{ℕ, ◌+◌, ◌-◌, ◌*◌, ◌/◌, ◌%◌, ◌≤◌, ◌<◌}
use native.Mathlib.Nat.{zero-add, add-zero, add_assoc}
use native.Mathlib.Omega.{arith}
use mathlib.Core.Path.{◌≡◌, refl, sym, ap, ◌∙◌}
use mathlib.Core.List.{List, [], ◌∷◌, ◌++◌}
use lib.ListN.{length}
use lib.Pow.{pow_pos}
use lib.Seq.{append_snoc}
use Rattle.laws.specs.Bytes.{Bytes}
use Rattle.laws.specs.Reading.{number_at}
use Rattle.laws.specs.Record.{Field, bits, number, bytes_of, padding, padded, packed}
use Rattle.laws.proofs.Bits.{number-add}
use Rattle.laws.proofs.Bytes.{length-bytes, bytes_whole}
use Rattle.laws.proofs.Written.{Fit, fit_append, bits_append, read_back}

-- the fields stand in the bytes from a bit on
unfoldable pub Spells : List ℕ → ℕ → List Field → Type 0
Spells bytes at [] = Unit {0}
Spells bytes at (f ∷ fs) = (number_at bytes at f.width ≡ f.value) × Spells bytes (at + f.width) fs

-- they fill the bits up to a bit, all within the bytes
pub record Stands (bytes : List ℕ) (at : ℕ) (fs : List Field) (end : ℕ) : Type 0 where
  pub spelled : Spells bytes at fs
  pub next : end ≡ at + bits fs
  pub whole : end ≤ 8 * length bytes

-- fewer than eight bits follow, all zero
pub record Padded (bytes : List ℕ) (at : ℕ) : Type 0 where
  pub few : 8 * length bytes - at < 8
  pub zeros : number_at bytes at (8 * length bytes - at) ≡ 0

module _ (bytes : List ℕ) where
  -- fields in a row are one number
  spell_number : (at : ℕ) (fs : List Field) → Spells bytes at fs → number_at bytes at (bits fs) ≡ number fs
  unfolding Spells bits number number_at
  spell_number at [] h = refl
  spell_number at (f ∷ fs) h = number-add bytes at f.width (bits fs) ∙ rw (h.0, spell_number (at + f.width) fs h.1)

  spells_append : (at : ℕ) (fs gs : List Field) → Spells bytes at fs → Spells bytes (at + bits fs) gs → Spells bytes at (fs ++ gs)
  unfolding Spells bits
  spells_append at [] gs h k = rw (add-zero at) at k
  spells_append at (f ∷ fs) gs h k = (h.0, spells_append (at + f.width) fs gs h.1 (rw (← add_assoc at f.width (bits fs)) at k))

  spells_front : (at : ℕ) (fs gs : List Field) → Spells bytes at (fs ++ gs) → Spells bytes at fs
  unfolding Spells
  spells_front at [] gs h = tt
  spells_front at (f ∷ fs) gs h = (h.0, spells_front (at + f.width) fs gs h.1)

  spells_behind : (at : ℕ) (fs gs : List Field) → Spells bytes at (fs ++ gs) → Spells bytes (at + bits fs) gs
  unfolding Spells bits
  spells_behind at [] gs h = rw (add-zero at) h
  spells_behind at (f ∷ fs) gs h = rw (← add_assoc at f.width (bits fs)) (spells_behind (at + f.width) fs gs h.1)

-- what was written is spelled
spells_from : (before fs : List Field) (n : ℕ) → Fit fs → bits (before ++ fs) ≡ 8 * n → Spells (bytes_of n (number (before ++ fs))) (bits before) fs
unfolding Spells Fit bits
spells_from before [] n a e = tt
spells_from before (f ∷ fs) n a e =
    let same : (before ++ (f ∷ [])) ++ fs ≡ before ++ f ∷ fs = append_snoc before f fs in
    let next : bits (before ++ (f ∷ [])) ≡ bits before + f.width = bits_append before (f ∷ []) ∙ omega arith in
    let ih = spells_from (before ++ (f ∷ [])) fs n a.1 (ap bits same ∙ e) in
    (read_back before f fs n a e, rw (same, next) at ih)

spells_written : (fs : List Field) (n : ℕ) → Fit fs → bits fs ≡ 8 * n → Spells (bytes_of n (number fs)) 0 fs
unfolding bits
spells_written fs n a e = spells_from [] fs n a e

padded-bits : (fs : List Field) → bits (padded fs) ≡ bits fs + (8 - bits fs % 8) % 8
unfolding padded padding bits
padded-bits fs = bits_append fs (padding (bits fs) ∷ []) ∙ omega arith

-- how many bytes the fields fill
pub length-packed : (fs : List Field) → 8 * length (packed (padded fs)) ≡ bits fs + (8 - bits fs % 8) % 8
unfolding packed
length-packed fs = rw (length-bytes (bits (padded fs) / 8) (number (padded fs))) (omega (arith, padded-bits fs))

module _ (bytes : List ℕ) (fs gs : List Field) (at : ℕ) {end : ℕ} where
  pub stands_append : {m : ℕ} → Stands bytes at fs m → Stands bytes m gs end → Stands bytes at (fs ++ gs) end
  stands_append h k =
      record {
        spelled = spells_append bytes at fs gs h.spelled (rw h.next at k.spelled);
        next = omega (arith, bits_append fs gs, h.next, k.next);
        whole = k.whole;
      }

  pub stands-front : Stands bytes at (fs ++ gs) end → Stands bytes at fs (at + bits fs)
  stands-front h =
      record {
        spelled = spells_front bytes at fs gs h.spelled;
        next = refl;
        whole = omega (arith, bits_append fs gs, h.next, h.whole);
      }

  pub stands-behind : Stands bytes at (fs ++ gs) end → Stands bytes (at + bits fs) gs end
  stands-behind h =
      record {
        spelled = spells_behind bytes at fs gs h.spelled;
        next = omega (arith, bits_append fs gs, h.next);
        whole = h.whole;
      }

-- the fields with zero padding determine the bytes
pub is-packed : (bytes : List ℕ) → Bytes bytes → (fs : List Field) {end : ℕ} → Stands bytes 0 fs end → Padded bytes end → bytes ≡ packed (padded fs)
unfolding packed padded padding Spells
is-packed bytes small fs {end} h k =
    let last : end ≡ bits fs = h.next ∙ zero-add (bits fs) in
    let pad : (8 - bits fs % 8) % 8 ≡ 8 * length bytes - end = omega (arith, h.whole, k.few) in
    let all : bits (padded fs) ≡ 8 * length bytes = padded-bits fs ∙ omega (arith, h.whole, k.few) in
    let n : bits (padded fs) / 8 ≡ length bytes = omega arith in
    let spelled : Spells bytes 0 (padded fs) =
    spells_append bytes 0 fs (padding (bits fs) ∷ []) h.spelled (rw (← h.next, pad) k.zeros, tt) in
    rw (n, ← spell_number bytes 0 (padded fs) spelled, all) (bytes_whole bytes small)

-- the padding apart
unpadded : (bytes : List ℕ) (fs : List Field) → bits (padded fs) ≡ 8 * length bytes → Spells bytes 0 (padded fs)
    → Stands bytes 0 fs (bits fs) × Padded bytes (bits fs)
unfolding padded padding Spells
unpadded bytes fs e all =
    let pad : (8 - bits fs % 8) % 8 ≡ 8 * length bytes - bits fs = omega (arith, padded-bits fs) in (
      record {
        spelled = spells_front bytes 0 fs (padding (bits fs) ∷ []) all;
        next = sym (zero-add (bits fs));
        whole = omega (arith, padded-bits fs);
      },
      record {
        few = omega (arith, padded-bits fs);
        zeros = rw (zero-add (bits fs), pad) at (spells_behind bytes 0 fs (padding (bits fs) ∷ []) all).0;
      },
    )

-- and stand in the bytes that they make
pub holds : (fs : List Field) → Fit fs → Stands (packed (padded fs)) 0 fs (bits fs) × Padded (packed (padded fs)) (bits fs)
unfolding packed padded padding Fit
holds fs a =
    let n : ℕ = bits (padded fs) / 8 in
    let e : bits (padded fs) ≡ 8 * n = omega (arith, padded-bits fs) in
    let fit : Fit (padded fs) = fit_append fs (padding (bits fs) ∷ []) a (pow_pos ((8 - bits fs % 8) % 8), tt) in
    unpadded (packed (padded fs)) fs (e ∙ ap (λ (k : ℕ). 8 * k) (sym (length-bytes n (number (padded fs))))) (spells_written (padded fs) n fit e)
