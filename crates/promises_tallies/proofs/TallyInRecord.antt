-- The deal's thirteen bytes in a tally are those that a record has behind board and table. Assumes nothing.
use Prim.Native.Nat.{ℕ, zero, suc, ◌≤◌, ◌<◌, ◌+◌, ◌*◌, ◌/◌}
use native.Mathlib.Nat.{add-zero, mul-zero, mul-suc}
use native.Mathlib.Omega.{arith}
use mathlib.Core.Path.{◌≡◌, sym, ap, ◌∙◌}
use mathlib.Core.List.{List, [], ◌∷◌}
use lib.ListN.{length, get_or}
use lib.Seq.{slice, length-slice, ext_get_or}
use Rattle.laws.specs.Bytes.{Bytes}
use Rattle.laws.specs.Lawful.{Lawful}
use Rattle.laws.specs.Reading.{number_at}
use Rattle.laws.specs.Record.{Parts, row, bits, padded, number, layout, packed, encode}
use Rattle.laws.proofs.Bytes.{bytes-of}
use Rattle.laws.proofs.Exact.{stands_here, stands-rest}
use Rattle.laws.proofs.LawfulParts.{lawful-fits}
use Rattle.laws.proofs.Spelled.{Stands, holds, stands-front}
use Rattle.tally.specs.InBytes.{deal_bytes, deal_in}
use Rattle.tally.proofs.InBytes.{length_deal_in, bytes_deal_back, slice-bytes}
use Rattle.tally_bytes.proofs.Places.{slice_at, holder_in}
use Rattle.last_card.proofs.Dealing.{holder-is}

-- a member of a row that stands in bytes
row_at : (w : ℕ) (bytes : List ℕ) (at : ℕ) (l : List ℕ) {end : ℕ} → Stands bytes at (row w l) end → (i : ℕ) → i < length l
    → get_or l i 0 ≡ number_at bytes (at + w * i) w
unfolding row
row_at w bytes at [] h i k = absurd (omega arith)
row_at w bytes at (v ∷ l) h zero k = rw (mul-zero w, add-zero at) (sym (stands_here h))
row_at w bytes at (v ∷ l) h (suc i) k =
    let e : at + w + w * i ≡ at + w * suc i = omega (arith, mul-suc w i) in
    row_at w bytes (at + w) l (stands-rest h) i (omega arith) ∙ ap (λ (n : ℕ). number_at bytes n w) e

row-bits : (w : ℕ) (l : List ℕ) → bits (row w l) ≡ w * length l
unfolding row bits
row-bits w [] = sym (mul-zero w)
row-bits w (v ∷ l) = omega (arith, row-bits w l, mul-suc w (length l))

module _ (p : Parts) (ok : Lawful p) where
  deal-stands : Stands (encode p) 16 (row 2 p.deal) (16 + bits (row 2 p.deal))
  unfolding layout encode
  deal-stands = stands-front (encode p) (row 2 p.deal) _ 16 (stands-rest (stands-rest (holds (layout p) (lawful-fits p ok)).0))

  enough : 15 ≤ length (encode p)
  enough = omega (arith, deal-stands.whole, row-bits 2 p.deal, ok.layout.holders)

  read-there : deal_in (slice 2 15 (encode p)) ≡ p.deal
  read-there =
      let s = slice 2 15 (encode p) in
      let thirteen : length s ≡ 13 = length-slice 2 15 (encode p) enough in
      let many : length (deal_in s) ≡ 52 = omega (arith, length_deal_in s) in
      ext_get_or 0 (deal_in s) p.deal (many ∙ sym ok.layout.holders)
      (λ i h.
      holder_in s i (omega arith)
      ∙ rw (slice_at 2 15 (encode p) (i / 4) (omega arith)) (holder-is (encode p) i)
      ∙ sym (row_at 2 (encode p) 16 p.deal deal-stands i (omega (arith, ok.layout.holders))))

  record_bytes : Bytes (encode p)
  unfolding encode packed
  record_bytes = bytes-of (bits (padded (layout p)) / 8) (number (padded (layout p)))

  pub as_in_record : (slice 2 15 (encode p) ≡ deal_bytes p.deal) × (deal_in (slice 2 15 (encode p)) ≡ p.deal)
  as_in_record =
      let s = slice 2 15 (encode p) in
      (sym (bytes_deal_back s (slice-bytes 2 15 (encode p) record_bytes)) ∙ ap deal_bytes read-there, read-there)
