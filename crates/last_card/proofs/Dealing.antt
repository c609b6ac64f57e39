-- The deal in the code is the Laws' section: two bits of a byte, the row of 52, and the seat without thirteen. Assumes nothing.
use Prim.Native.Nat.{ℕ, zero, suc, ◌≤◌, ◌<◌, ◌+◌, ◌-◌, ◌*◌, ◌/◌, ◌%◌, ◌^◌}
use native.Mathlib.Nat.{zero-add, add-zero, mul-zero, mul-suc}
use native.Mathlib.Omega.{arith}
use mathlib.Core.Path.{◌≡◌, refl, sym, ap, ◌∙◌}
use mathlib.Core.Bool.{true, false}
use mathlib.Core.List.{List, [], ◌∷◌, ◌++◌}
use borrow.Author.Tests.{eq-eqb, ne_eqb, leb-true, leb-false, ltb-true, ltb-false}
use lib.Dec.{leb, ltb}
use lib.ListN.{length, get_or, length-append, get_or-append}
use lib.Seq.{get_or_at}
use Rattle.laws.specs.Cards.{seat_without_thirteen}
use Rattle.laws.specs.Reading.{Reading.refused, Reading.found, bit_at, number_at, refuse, read_row}
use Rattle.laws.specs.Judge.{read_deal}
use Rattle.laws.proofs.Tests.{by_test}
use Rattle.laws.proofs.Readings.{read_is, read_short}
use Rattle.deal.specs.Hands.{words_of, not_thirteen_from}
use Rattle.deal.proofs.Thirteen.{by_hands}
use Rattle.last_card.specs.Sections.{row_at, fours_of, deal_of}
use Rattle.laws.specs.Refusals.{refused_at, given, record_ends, not_thirteen}

-- ---- a holder: two bits of its byte
two-bits : (b m : ℕ) → m < 4 → b / 2 ^ (7 - 2 * m) % 2 * 2 + b / 2 ^ (6 - 2 * m) % 2 ≡ b / 2 ^ (6 - 2 * m) % 4
two-bits b zero h = omega arith
two-bits b (suc zero) h = omega arith
two-bits b (suc (suc zero)) h = omega arith
two-bits b (suc (suc (suc zero))) h = omega arith
two-bits b (suc (suc (suc (suc m)))) h = absurd (omega arith)

pub holder-is : (bytes : List ℕ) (i : ℕ) → get_or bytes (2 + i / 4) 0 / 2 ^ (6 - 2 * (i % 4)) % 4 ≡ number_at bytes (16 + 2 * i) 2
unfolding number_at bit_at
holder-is bytes i =
    let q : (16 + 2 * i + 0) / 8 ≡ 2 + i / 4 = omega arith in
    let r : 7 - (16 + 2 * i + 0) % 8 ≡ 7 - 2 * (i % 4) = omega arith in
    let s : (16 + 2 * i + 1) / 8 ≡ 2 + i / 4 = omega arith in
    let t : 7 - (16 + 2 * i + 1) % 8 ≡ 6 - 2 * (i % 4) = omega arith in
    rw (q, r, s, t, zero-add) (sym (two-bits (get_or bytes (2 + i / 4) 0) (i % 4) (omega arith)))

pub fours-many : (bytes : List ℕ) (n : ℕ) → length (fours_of bytes n) ≡ n
unfolding fours_of
fours-many bytes zero = refl
fours-many bytes (suc n) = length-append (fours_of bytes n) _ ∙ omega (arith, fours-many bytes n)

-- the byte of a card
pub four_at : (bytes : List ℕ) (n i : ℕ) → i < n → get_or (fours_of bytes n) i 0 ≡ get_or bytes (2 + i / 4) 0
unfolding fours_of
four_at bytes zero i h = absurd (omega arith)
four_at bytes (suc n) i h =
    let long = fours-many bytes n in
    by_test (ltb i n)
    (λ (q : ltb i n ≡ true). let l = ltb-true i n q in get_or-append (fours_of bytes n) _ 0 i (omega arith) ∙ four_at bytes n i l)
    (λ (q : ltb i n ≡ false). let e : i ≡ n = omega (arith, ltb-false i n q) in rw e (get_or_at (fours_of bytes n) _ [] 0 n long))

-- ---- the row, a field at a time
pub row_last : (bytes : List ℕ) (w n at : ℕ) → row_at bytes at w (suc n) ≡ row_at bytes at w n ++ (number_at bytes (at + w * n) w ∷ [])
unfolding row_at
row_last bytes w zero at = rw (mul-zero w, add-zero at)
row_last bytes w (suc n) at =
    let e : at + w + w * n ≡ at + w * suc n = omega (arith, mul-suc w n) in
    ap (λ (l : List ℕ). number_at bytes at w ∷ l) (row_last bytes w n (at + w) ∙ rw e)

pub row_reads : (bytes : List ℕ) (w n at : ℕ) → at + w * n ≤ 8 * length bytes → read_row w n bytes at ≡ found (row_at bytes at w n) (at + w * n)
unfolding read_row row_at
row_reads bytes w zero at h = rw (mul-zero w, add-zero at)
row_reads bytes w (suc n) at h =
    let e : at + w + w * n ≡ at + w * suc n = omega (arith, mul-suc w n) in
    rw (read_is w bytes at refl (omega (arith, mul-suc w n)), row_reads bytes w n (at + w) (omega arith), e)

pub row-short : (bytes : List ℕ) (w n at : ℕ) → at ≤ 8 * length bytes → 8 * length bytes < at + w * n → read_row w n bytes at ≡ refused 2 0
unfolding read_row
row-short bytes w zero at k h = absurd (omega (arith, mul-zero w))
row-short bytes w (suc n) at k h =
    by_test (leb (at + w) (8 * length bytes))
    (λ (q : leb (at + w) (8 * length bytes) ≡ true).
    let t = leb-true (at + w) (8 * length bytes) q in
    rw (read_is w bytes at refl t, row-short bytes w n (at + w) t (omega (arith, mul-suc w n))))
    (λ (q : leb (at + w) (8 * length bytes) ≡ false). rw (read_short w bytes at (leb-false (at + w) (8 * length bytes) q)))

-- ---- the deal
module _ (bytes : List ℕ) where
  -- fewer bytes than hold the deal: none of it, or not all
  none-there : length bytes < 2 → read_row 2 52 bytes 16 ≡ refused 2 0
  unfolding read_row
  none-there k = rw (read_short 2 bytes 16 (omega arith))

  row_missing : length bytes < 15 → read_row 2 52 bytes 16 ≡ refused 2 0
  row_missing h =
      by_test (ltb (length bytes) 2)
      (λ (q : ltb (length bytes) 2 ≡ true). none-there (ltb-true (length bytes) 2 q))
      (λ (q : ltb (length bytes) 2 ≡ false). row-short bytes 2 52 16 (omega (arith, ltb-false (length bytes) 2 q)) (omega arith))

  pub deal-short : length bytes < 15 → refused_at record_ends 0 ≡ deal_of (read_deal bytes 16)
  unfolding read_deal
  deal-short h = rw (row_missing h)

  module _ (h : 15 ≤ length bytes) (row hands : List ℕ) (er : row ≡ row_at bytes 16 2 52) (eh : hands ≡ words_of row) (seat : ℕ)
      (eq : seat ≡ not_thirteen_from 0 hands) where
    es : seat ≡ seat_without_thirteen row
    es = eq ∙ ap (not_thirteen_from 0) eh ∙ by_hands row

    pub deal-uneven : (seat ≡ 4 → ⊥) → refused_at not_thirteen seat ≡ deal_of (read_deal bytes 16)
    unfolding read_deal refuse
    deal-uneven n = rw (row_reads bytes 2 52 16 (omega arith), ← er, ← es, ne_eqb seat 4 n)

    pub deal-read : seat ≡ 4 → given (record { holders = row; hands = hands }) ≡ deal_of (read_deal bytes 16)
    unfolding read_deal refuse
    deal-read e = rw (row_reads bytes 2 52 16 (omega arith), ← er, ← es, eq-eqb seat 4 e, ← eh)
