-- The places of a tally in bytes: what stands at each of the deal, the scores and their bytes. Assumes nothing.
use Prim.Native.Nat.{ℕ, zero, suc, ◌<◌, ◌+◌, ◌-◌, ◌*◌, ◌/◌, ◌%◌, ◌^◌}
use native.Mathlib.Nat.{div-one}
use native.Mathlib.Omega.{arith}
use mathlib.Core.Path.{◌≡◌, refl, ap, ◌∙◌}
use mathlib.Core.List.{List, [], ◌∷◌}
use lib.IntN.{ℤ, pos}
use lib.ListN.{length, get_or, take}
use lib.Seq.{slice, length-slice, get_or-take, get_or-drop}
use Rattle.laws.specs.Judgement.{twos_complement}
use Rattle.laws.specs.Record.{bytes_of}
use Rattle.tally.specs.InBytes.{deal_bytes, score_bytes, deal_in, signed, scores_in_bytes}

-- a place between two others
pub slice_at : (n m : ℕ) (l : List ℕ) (i : ℕ) → n + i < m → get_or (slice n m l) i 0 ≡ get_or l (n + i) 0
slice_at n m l i h = get_or-drop n (take m l) i 0 ∙ get_or-take m l (n + i) 0 h

-- ---- reading
pub holder_in : (bytes : List ℕ) (i : ℕ) → i < 4 * length bytes → get_or (deal_in bytes) i 0 ≡ get_or bytes (i / 4) 0 / 2 ^ (6 - 2 * (i % 4)) % 4
unfolding deal_in
holder_in [] i h = absurd (omega arith)
holder_in (x ∷ bytes) zero h = refl
holder_in (x ∷ bytes) (suc zero) h = refl
holder_in (x ∷ bytes) (suc (suc zero)) h = refl
holder_in (x ∷ bytes) (suc (suc (suc zero))) h = rw div-one
holder_in (x ∷ bytes) (suc (suc (suc (suc i)))) h =
    let q : suc (suc (suc (suc i))) / 4 ≡ suc (i / 4) = omega arith in
    let r : suc (suc (suc (suc i))) % 4 ≡ i % 4 = omega arith in
    rw (q, r) (holder_in bytes i (omega arith))

score_in : (bytes : List ℕ) (i : ℕ) → 2 * i + 1 < length bytes
    → get_or (scores_in_bytes bytes) i (pos 0) ≡ signed (get_or bytes (2 * i) 0 * 256 + get_or bytes (2 * i + 1) 0)
unfolding scores_in_bytes
score_in [] i h = absurd (omega arith)
score_in (x ∷ []) i h = absurd (omega arith)
score_in (x ∷ y ∷ bytes) zero h = refl
score_in (x ∷ y ∷ bytes) (suc i) h =
    let p : 2 * suc i ≡ suc (suc (2 * i)) = omega arith in
    let q : 2 * suc i + 1 ≡ suc (suc (2 * i + 1)) = omega arith in
    rw (q, p) (score_in bytes i (omega arith))

module _ (bytes : List ℕ) (i : ℕ) (n : length bytes ≡ 398) where
  pub holder_at : i < 52 → get_or (deal_in (slice 1 14 bytes)) i 0 ≡ get_or bytes (1 + i / 4) 0 / 2 ^ (6 - 2 * (i % 4)) % 4
  holder_at h =
      let many = length-slice 1 14 bytes (omega arith) in
      holder_in (slice 1 14 bytes) i (omega arith)
      ∙ ap (λ (b : ℕ). b / 2 ^ (6 - 2 * (i % 4)) % 4) (slice_at 1 14 bytes (i / 4) (omega arith))

  pub score_at : i < 128 → get_or (scores_in_bytes (slice 14 270 bytes)) i (pos 0) ≡ signed (get_or bytes (14 + 2 * i) 0 * 256 + get_or bytes (15 + 2 * i) 0)
  score_at h =
      let many = length-slice 14 270 bytes (omega arith) in
      let e : 14 + (2 * i + 1) ≡ 15 + 2 * i = omega arith in
      score_in (slice 14 270 bytes) i (omega arith)
      ∙ rw (slice_at 14 270 bytes (2 * i) (omega arith), slice_at 14 270 bytes (2 * i + 1) (omega arith), e)

-- ---- writing
pub four_at : (deal : List ℕ) (i : ℕ) → 4 * i + 3 < length deal
    → get_or (deal_bytes deal) i 0
    ≡ get_or deal (4 * i) 0 % 4 * 64 + get_or deal (4 * i + 1) 0 % 4 * 16 + get_or deal (4 * i + 2) 0 % 4 * 4 + get_or deal (4 * i + 3) 0 % 4
unfolding deal_bytes
four_at [] i h = absurd (omega arith)
four_at (a ∷ []) i h = absurd (omega arith)
four_at (a ∷ b ∷ []) i h = absurd (omega arith)
four_at (a ∷ b ∷ c ∷ []) i h = absurd (omega arith)
four_at (a ∷ b ∷ c ∷ d ∷ deal) zero h = refl
four_at (a ∷ b ∷ c ∷ d ∷ deal) (suc i) h =
    let p : 4 * suc i ≡ suc (suc (suc (suc (4 * i)))) = omega arith in
    let q : 4 * suc i + 1 ≡ suc (suc (suc (suc (4 * i + 1)))) = omega arith in
    let r : 4 * suc i + 2 ≡ suc (suc (suc (suc (4 * i + 2)))) = omega arith in
    let s : 4 * suc i + 3 ≡ suc (suc (suc (suc (4 * i + 3)))) = omega arith in
    rw (q, r, s, p) (four_at deal i (omega arith))

pub high_at : (scores : List ℤ) (i : ℕ) → i < length scores → get_or (score_bytes scores) (2 * i) 0 ≡ twos_complement (get_or scores i (pos 0)) / 256 % 256
unfolding score_bytes bytes_of
high_at [] i h = absurd (omega arith)
high_at (s ∷ scores) zero h = refl
high_at (s ∷ scores) (suc i) h = let p : 2 * suc i ≡ suc (suc (2 * i)) = omega arith in rw p (high_at scores i (omega arith))

pub low_at : (scores : List ℤ) (i : ℕ) → i < length scores → get_or (score_bytes scores) (2 * i + 1) 0 ≡ twos_complement (get_or scores i (pos 0)) % 256
unfolding score_bytes bytes_of
low_at [] i h = absurd (omega arith)
low_at (s ∷ scores) zero h = rw div-one
low_at (s ∷ scores) (suc i) h = let p : 2 * suc i + 1 ≡ suc (suc (2 * i + 1)) = omega arith in rw p (low_at scores i (omega arith))
