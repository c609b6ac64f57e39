-- Words of Portable Bridge Notation: a word is read as the number that it is the word of, and a line of words as their numbers, and only so.
-- Assumes nothing.
use Prim.Native.Nat.{ℕ, zero, suc, ◌≤◌, ◌<◌}
use native.Mathlib.Omega.{arith}
use mathlib.Core.Path.{◌≡◌, refl, sym, ap, ap₂, ◌∙◌}
use mathlib.Core.Bool.{true, false}
use mathlib.Core.List.{List, [], ◌∷◌, ◌++◌, map}
use borrow.Author.Tests.{eqb-true, eq-eqb}
use lib.Dec.{eqb}
use lib.ListN.{length, length-map}
use Rattle.laws.specs.Choice.{some}
use Rattle.laws.specs.Sheet.{before}
use Rattle.laws.specs.PbnText.{EachBelow, space, joined_by, row_line}
use Rattle.laws.specs.PbnReading.{Read, misses, reads, on_read, same_bytes, number_of, parted_by, numbers_of, row_in}
use Rattle.laws.proofs.Tests.{by_test, not_both, and_left, and_right, and_both, or_left, or_right}
use Rattle.laws.proofs.Counts.{every_below, every_below_lem}

-- nothing read is no value
pub misses-reads : {A P : Type 0} {a : A} → ◌≡◌ {A = Read A} misses (reads a) → P
misses-reads q = let z : ◌≡◌ {A = ℕ} 0 1 = cc in absurd (omega arith)

pub reads_same : {A : Type 0} {a b : A} → ◌≡◌ {A = Read A} (reads a) (reads b) → a ≡ b
reads_same p = cc

-- a first reading that came to something
pub first_read : {A B : Type 0} {b : B} (r : Read A) (next : A → Read B) → on_read r next ≡ reads b → (a : A) × (r ≡ reads a) × (next a ≡ reads b)
first_read misses next q = misses-reads q
first_read (reads a) next q = (a, refl, q)

-- ---- the same bytes
pub same_true : (s t : List ℕ) → same_bytes s t ≡ true → s ≡ t
unfolding same_bytes
same_true [] [] e = refl
same_true [] (c ∷ t) e = not_both false e refl
same_true (b ∷ s) [] e = not_both false e refl
same_true (b ∷ s) (c ∷ t) e = ap₂ ◌∷◌ (eqb-true b c (and_left _ _ e)) (same_true s t (and_right (eqb b c) _ e))

pub same_self : (s : List ℕ) → same_bytes s s ≡ true
unfolding same_bytes
same_self [] = refl
same_self (b ∷ s) = and_both _ _ (eq-eqb b b refl) (same_self s)

-- ---- a word
module _ (word_of : ℕ → List ℕ) where
  pub number_sound : (n : ℕ) (word : List ℕ) (k : ℕ) → number_of word_of n word ≡ reads k → (k < n) × (word ≡ word_of k)
  unfolding number_of
  number_sound zero word k e = misses-reads e
  number_sound (suc n) word k e =
      by_test (same_bytes (word_of n) word)
      (λ (q : same_bytes (word_of n) word ≡ true).
      let z : n ≡ k = reads_same (rw q at e) in
      rw (← z) (omega arith, sym (same_true (word_of n) word q)))
      (λ (q : same_bytes (word_of n) word ≡ false).
      let r = number_sound n word k (rw q at e) in (omega (arith, r.0), r.1))

  -- no two numbers below n have one word
  abbrev pub Apart : ℕ → Type 0
  Apart n = (j k : ℕ) → j < n → k < n → word_of j ≡ word_of k → j ≡ k

  pub number-whole : (n k : ℕ) → k < n → Apart n → number_of word_of n (word_of k) ≡ reads k
  unfolding number_of
  number-whole zero k h apart = absurd (omega arith)
  number-whole (suc n) k h apart =
      by_test (same_bytes (word_of n) (word_of k))
      (λ (q : same_bytes (word_of n) (word_of k) ≡ true).
      let z : n ≡ k = apart n k (omega arith) h (same_true _ _ q) in
      rw (q, z))
      (λ (q : same_bytes (word_of n) (word_of k) ≡ false).
      let other : n ≡ k → ⊥ = λ e. not_both _ (rw e (same_self (word_of k))) q in
      rw q (number-whole n k (omega arith) (λ i j a b. apart i j (omega arith) (omega arith))))

  -- a way back from each word tells them apart
  pub apart_by : (n : ℕ) (back : List ℕ → ℕ) → every_below n (λ k. eqb (back (word_of k)) k) ≡ true → Apart n
  apart_by n back computed j k h i e =
      let a : back (word_of j) ≡ j = eqb-true _ _ (every_below_lem n (λ k. eqb (back (word_of k)) k) computed j h) in
      let b : back (word_of k) ≡ k = eqb-true _ _ (every_below_lem n (λ k. eqb (back (word_of k)) k) computed k i) in
      sym a ∙ ap back e ∙ b

-- ---- words
module _ (word_of : ℕ → List ℕ) (n : ℕ) where
  pub numbers_sound : (words : List (List ℕ)) (codes : List ℕ) → numbers_of word_of n words ≡ reads codes → EachBelow n codes × (words ≡ map word_of codes)
  unfolding numbers_of EachBelow
  numbers_sound [] codes e = let z : [] ≡ codes = reads_same e in rw (← z) (tt, refl)
  numbers_sound (word ∷ words) codes e =
      let r = first_read (number_of word_of n word) _ e in
      let q = first_read (numbers_of word_of n words) _ r.2 in
      let k = number_sound word_of n word r.0 r.1 in
      let more = numbers_sound words q.0 q.1 in
      let z : r.0 ∷ q.0 ≡ codes = reads_same q.2 in
      rw (← z) ((k.0, more.0), ap₂ ◌∷◌ k.1 more.1)

  pub numbers-whole : Apart word_of n → (codes : List ℕ) → EachBelow n codes → numbers_of word_of n (map word_of codes) ≡ reads codes
  unfolding numbers_of EachBelow
  numbers-whole apart [] h = refl
  numbers-whole apart (c ∷ codes) h = rw (number-whole word_of n c h.0 apart, numbers-whole apart codes h.1)

-- ---- parts between bytes
module _ (byte : ℕ) where
  -- the byte does not stand in a word
  abbrev pub Free : List ℕ → Type 0
  Free word = some (λ b. eqb b byte) word ≡ false

  unfoldable pub AllFree : List (List ℕ) → Type 0
  AllFree [] = Unit {0}
  AllFree (word ∷ words) = Free word × AllFree words

  -- a byte more in the first of the parts
  join_before : (b : ℕ) (parts : List (List ℕ)) → joined_by byte (before b parts) ≡ b ∷ joined_by byte parts
  unfolding joined_by before
  join_before b [] = refl
  join_before b (part ∷ []) = refl
  join_before b (part ∷ next ∷ parts) = refl

  -- there is always a part
  pub some_part : (s : List ℕ) → 1 ≤ length (parted_by byte s)
  unfolding parted_by before
  some_part [] = omega arith
  some_part (b ∷ s) =
      by_test (eqb b byte)
      (λ (q : eqb b byte ≡ true). rw q (omega arith))
      (λ (q : eqb b byte ≡ false). rw q (longer b (parted_by byte s)))
    where
      longer : (b : ℕ) (parts : List (List ℕ)) → 1 ≤ length (before b parts)
      longer b [] = omega arith
      longer b (part ∷ parts) = omega arith

  join_empty : (parts : List (List ℕ)) → 1 ≤ length parts → joined_by byte ([] ∷ parts) ≡ byte ∷ joined_by byte parts
  unfolding joined_by
  join_empty [] h = absurd (omega arith)
  join_empty (part ∷ parts) h = refl

  pub parted_joined : (s : List ℕ) → joined_by byte (parted_by byte s) ≡ s
  unfolding joined_by parted_by
  parted_joined [] = refl
  parted_joined (b ∷ s) =
      by_test (eqb b byte)
      (λ (q : eqb b byte ≡ true). rw q (join_empty (parted_by byte s) (some_part s) ∙ ap₂ ◌∷◌ (sym (eqb-true b byte q)) (parted_joined s)))
      (λ (q : eqb b byte ≡ false). rw q (join_before b (parted_by byte s) ∙ ap (λ l. b ∷ l) (parted_joined s)))

  pub parted_word : (word : List ℕ) → Free word → parted_by byte word ≡ word ∷ []
  unfolding parted_by before some
  parted_word [] h = refl
  parted_word (b ∷ word) h = rw (or_left (eqb b byte) _ h, parted_word word (or_right (eqb b byte) _ h))

  pub parted_front : (word s : List ℕ) → Free word → parted_by byte (word ++ (byte ∷ s)) ≡ word ∷ parted_by byte s
  unfolding parted_by before some
  parted_front [] s h = rw (eq-eqb byte byte refl)
  parted_front (b ∷ word) s h = rw (or_left (eqb b byte) _ h, parted_front word s (or_right (eqb b byte) _ h))

  pub joined_parted : (word : List ℕ) (words : List (List ℕ)) → AllFree (word ∷ words) → parted_by byte (joined_by byte (word ∷ words)) ≡ word ∷ words
  unfolding joined_by AllFree
  joined_parted word [] h = parted_word word h.0
  joined_parted word (next ∷ words) h = parted_front word _ h.0 ∙ ap (λ l. word ∷ l) (joined_parted next words h.1)

-- ---- a line of words
module _ (word_of : ℕ → List ℕ) (n : ℕ) where
  pub row_sound : (line row : List ℕ) → row_in word_of n line ≡ reads row → EachBelow n row × (1 ≤ length row) × (line ≡ row_line word_of row)
  row_sound line row e =
      let r = numbers_sound word_of n (parted_by space line) row e in
      (r.0, omega (arith, some_part space line, ap length r.1, length-map row word_of), sym (parted_joined space line) ∙ ap (joined_by space) r.1)

  -- no word has a space
  abbrev pub NoSpace : Type 0
  NoSpace = (k : ℕ) → k < n → Free space (word_of k)

  all_free : NoSpace → (row : List ℕ) → EachBelow n row → AllFree space (map word_of row)
  unfolding AllFree EachBelow
  all_free spaceless [] h = tt
  all_free spaceless (c ∷ row) h = (spaceless c h.0, all_free spaceless row h.1)

  pub row-whole : Apart word_of n → NoSpace → (row : List ℕ) → EachBelow n row → 1 ≤ length row → row_in word_of n (row_line word_of row) ≡ reads row
  row-whole apart spaceless [] h k = absurd (omega arith)
  row-whole apart spaceless (c ∷ row) h k =
      rw (joined_parted space (word_of c) (map word_of row) (all_free spaceless (c ∷ row) h)) (numbers-whole word_of n apart (c ∷ row) h)
