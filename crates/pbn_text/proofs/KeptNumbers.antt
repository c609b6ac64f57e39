-- A list of numbers as far as it is kept: one number more. Assumes nothing.
use Prim.Native.Nat.{ℕ, ◌+◌, ◌≤◌, ◌<◌, min}
use native.Mathlib.Numerals.{add-one}
use native.Mathlib.Omega.{arith}
use mathlib.Core.Path.{◌≡◌, refl, sym, ap, ap₂, ◌∙◌}
use mathlib.Core.List.{List, [], ◌∷◌, ◌++◌, append_assoc}
use lib.ListN.{length, get_or, take, set, replicate, length-append, length-replicate, get_or-replicate}
use lib.Seq.{ext_get_or, take-append-le, take-set-lt, set_at, take-suc}
use Rattle.std.specs.Array.{AllOfLen}
use Rattle.pbn_text.specs.declared.numbers.Numbers.{Numbers}
use Rattle.pbn_text.specs.Kept.{kept_of}

abbrev zeros : List ℕ
zeros = replicate 511 0

-- no number, as `default` makes it
pub none_kept : (n : Numbers) → n.count ≡ 0 → AllOfLen (λ (x : ℕ). x ≡ 0) n.numbers 511 → n ≡ kept_of []
unfolding kept_of
none_kept n a b =
    ap₂ (λ (count : ℕ) (numbers : List ℕ). record { count = count; numbers = numbers }) a
    (ext_get_or 0 n.numbers zeros (b.long ∙ sym (length-replicate {A = ℕ} 511 0))
    (λ i h. b.at i 0 (rw b.long at h) ∙ sym (get_or-replicate 511 i 0 0 (rw b.long at h))))

module _ (kept : Numbers) (l : List ℕ) (e : kept ≡ kept_of l) (x : ℕ) where
  count-is : kept.count ≡ min (length l) 512
  unfolding kept_of
  count-is = ap (λ (k : Numbers). k.count) e

  numbers_are : kept.numbers ≡ take 511 (l ++ zeros)
  unfolding kept_of
  numbers_are = ap (λ (k : Numbers). k.numbers) e

  one_more : length (l ++ (x ∷ [])) ≡ length l + 1
  one_more = length-append l (x ∷ [])

  pub full : 511 ≤ kept.count → ◌≡◌ {A = Numbers} (record { count = 512; numbers = kept.numbers }) (kept_of (l ++ (x ∷ [])))
  unfolding kept_of
  full h =
      let many : 511 ≤ length l = omega (arith, count-is) in
      let n : 512 ≡ min (length (l ++ (x ∷ []))) 512 = omega (arith, one_more) in
      let front : take 511 (l ++ zeros) ≡ take 511 l = take-append-le 511 l zeros many in
      let again : take 511 (l ++ (x ∷ []) ++ zeros) ≡ take 511 l
      = ap (take 511) (append_assoc l (x ∷ []) zeros) ∙ take-append-le 511 l ((x ∷ []) ++ zeros) many in
      ap₂ (λ c m. record { count = c; numbers = m }) n (numbers_are ∙ front ∙ sym again)

  pub room : kept.count < 511
      → ◌≡◌ {A = Numbers} (record { count = kept.count + 1; numbers = set kept.numbers kept.count x }) (kept_of (l ++ (x ∷ [])))
  unfolding kept_of
  room h =
      let at : kept.count ≡ length l = omega (arith, count-is) in
      let n : kept.count + 1 ≡ min (length (l ++ (x ∷ []))) 512 = omega (arith, one_more) in
      let behind : List ℕ = x ∷ replicate 510 0 in
      let put : set (take 511 (l ++ zeros)) (length l) x ≡ take 511 (l ++ behind)
      = sym (take-set-lt 511 (l ++ zeros) (length l) x (omega arith)) ∙ ap (take 511) (set_at l 0 (replicate 510 0) x (length l) refl) in
      let last : take 511 ((l ++ behind) ++ (0 ∷ [])) ≡ take 511 (l ++ behind)
      = take-append-le 511 (l ++ behind) (0 ∷ []) (omega (arith, length-append l behind)) in
      let whole : take 511 (l ++ (x ∷ []) ++ zeros) ≡ take 511 ((l ++ behind) ++ (0 ∷ []))
      = ap (take 511) (append_assoc l (x ∷ []) zeros ∙ sym (append_assoc l behind (0 ∷ []))) in
      ap₂ (λ c m. record { count = c; numbers = m }) n (ap₂ (λ m i. set m i x) numbers_are at ∙ put ∙ sym last ∙ sym whole)

-- the numbers of a row one after the other
pub next-number : (l numbers : List ℕ) (i : ℕ) → i < length numbers
    → (l ++ take i numbers) ++ (get_or numbers i 0 ∷ []) ≡ l ++ take (i + 1) numbers
next-number l numbers i h =
    append_assoc l (take i numbers) (get_or numbers i 0 ∷ []) ∙ ap (λ m. l ++ m) (sym (take-suc numbers i 0 h) ∙ ap (λ n. take n numbers) (sym (add-one i)))
