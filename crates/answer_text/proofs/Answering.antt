-- The text of what calls answer: how long it is, and the loop that prints a tally's entries. Assumes nothing.
use Prim.Native.Nat.{ℕ, zero, suc, ◌+◌, ◌-◌, ◌*◌, ◌/◌, ◌%◌, ◌^◌, ◌≤◌, ◌<◌}
use native.Mathlib.Numerals.{add-one}
use native.Mathlib.Omega.{arith}
use mathlib.Core.Path.{◌≡◌, refl, sym, ◌∙◌}
use mathlib.Core.List.{List, [], ◌∷◌, ◌++◌, append_assoc, append-nil}
use mathlib.Core.Bool.{true, false}
use borrow.Author.Tests.{eq-eqb, ne_eqb}
use lib.Dec.{eqb}
use lib.IntN.{ℤ, pos}
use lib.ListN.{length, get_or, drop, length-append, drop_of_length-le}
use lib.Seq.{drop-cons}
use mir.Syntax.{w16}
use mir.Val.{SFits}
use Rattle.laws.specs.Decimal.{decimal, signed_decimal}
use Rattle.laws.proofs.Tests.{by_test}
use Rattle.tally.specs.declared.Tally.{Tally}
use Rattle.answer_text.specs.Answers.{placed_text, refused_at_text, points_text, hex_digit, hex_digits, bits_text, entry_text, places_text}
use Rattle.text.specs.Putting.{Put}
use Rattle.text.specs.Refused.{refused_text}
use Rattle.text.proofs.RefusalLengths.{refused-length}
use Rattle.text.proofs.Printed.{length_3, length_by}
use Rattle.text.proofs.Puts.{then}
use Rattle.text.proofs.SingleLines.{size-short}

-- ---- lengths
pub points-length : (ns ew : ℕ) → length (points_text ns ew) ≡ length (decimal ns) + length (decimal ew) + 2
points-length ns ew = simp length-append (omega arith)

pub entry_length : (s : ℤ) (c : ℕ) → length (entry_text s c) ≡ length (signed_decimal s) + length (decimal c) + 2
entry_length s c = simp length-append (omega arith)

pub refused-short : (n : ℕ) → n < 256 → length (refused_text n) ≤ 34
refused-short n h = omega (arith, refused-length n, length_3 n (omega arith))

pub placed-length : (n place : ℕ) → length (placed_text n place) ≡ length (decimal n) + length (decimal place) + 16
placed-length n place = simp length-append (omega arith)

pub refused_at_short : (n place : ℕ) → n < 256 → place < 65536 → length (refused_at_text n place) ≤ 34
unfolding refused_at_text
refused_at_short n place h k =
    by_test (eqb place 0)
    (λ (q : eqb place 0 ≡ true). rw q (refused-short n h))
    (λ (q : eqb place 0 ≡ false). rw q (omega (arith, placed-length n place, length_3 n (omega arith), length_by 9 place (omega arith))))

pub points-short : (ns ew : ℕ) → ns < 2 ^ 32 → ew < 2 ^ 32 → length (points_text ns ew) ≤ 34
points-short ns ew h k = omega (arith, points-length ns ew, length_by 9 ns (omega arith), length_by 9 ew (omega arith))

pub entry-short : (s : ℤ) (c : ℕ) → SFits w16 s → c < 256 → length (entry_text s c) ≤ 11
entry-short s c f h = omega (arith, entry_length s c, size-short s f, length_3 c (omega arith))

-- ---- hexadecimal digits
pub hex_length : (k n : ℕ) → length (hex_digits k n) ≡ k
unfolding hex_digits
hex_length zero n = refl
hex_length (suc k) n = rw (length-append (hex_digits k (n / 16)) (hex_digit (n % 16) ∷ [])) (omega (arith, hex_length k (n / 16)))

pub hex_none : (k n : ℕ) → k ≡ 0 → hex_digits k n ≡ []
unfolding hex_digits
hex_none k n e = rw e

pub hex_more : (k n : ℕ) → (k ≡ 0 → ⊥) → hex_digits k n ≡ hex_digits (k - 1) (n / 16) ++ (hex_digit (n % 16) ∷ [])
unfolding hex_digits
hex_more zero n h = absurd (h refl)
hex_more (suc k) n h = let e : suc k - 1 ≡ k = omega arith in rw e

pub bits-length : (word : List ℕ) (bits : ℕ) → length (bits_text word bits) ≡ length word + 17
bits-length word bits = simp length-append (omega (arith, hex_length 16 bits))

-- ---- a tally's places
-- the lines of the places from i on
abbrev pub lines_from : Tally → ℕ → List ℕ
lines_from t i = places_text (drop i t.scores) (drop i t.counts)

-- the lines of the places before i are put, of at most 11 bytes each
pub record Shown (t : Tally) (out₀ : List ℕ) (out : List ℕ) (at i : ℕ) : Type 0 where
  pub places : i ≤ 128
  pub scores : length t.scores ≡ 128
  pub counts : length t.counts ≡ 128
  pub done : List ℕ
  pub put : Put out₀ 0 done out at
  pub short : length done ≤ 11 * i
  pub whole : lines_from t 0 ≡ done ++ lines_from t i

pub begins : (t : Tally) (out left : List ℕ) (at : ℕ) → length t.scores ≡ 128 → length t.counts ≡ 128 → Put out 0 [] left at → Shown t out left at 0
begins t out left at ss cs p = record { places = omega arith; scores = ss; counts = cs; done = []; put = p; short = omega arith; whole = refl }

module _ (t : Tally) (out₀ out : List ℕ) (at i : ℕ) (w : Shown t out₀ out at i) where
  ended : lines_from t i ≡ [] → Put out₀ 0 (lines_from t 0) out at × (length (lines_from t 0) ≤ 1408)
  ended e =
      let d : lines_from t 0 ≡ w.done = w.whole ∙ rw e (append-nil w.done) in
      rw d (w.put, omega (arith, w.short, w.places))

  pub ends : i < 128 → get_or t.counts i 0 ≡ 0 → Put out₀ 0 (lines_from t 0) out at × (length (lines_from t 0) ≤ 1408)
  unfolding places_text
  ends h z =
      let hs : i < length t.scores = omega (arith, w.scores) in
      let hc : i < length t.counts = omega (arith, w.counts) in
      ended (rw (drop-cons t.scores i (pos 0) hs, drop-cons t.counts i 0 hc, eq-eqb (get_or t.counts i 0) 0 z))

  pub full : 128 ≤ i → Put out₀ 0 (lines_from t 0) out at × (length (lines_from t 0) ≤ 1408)
  unfolding places_text
  full h = let hs : length t.scores ≤ i = omega (arith, w.scores) in ended (rw (drop_of_length-le t.scores hs))

  module _ (h : i < 128) (u : get_or t.counts i 0 ≡ 0 → ⊥) where
    abbrev line : List ℕ
    line = entry_text (get_or t.scores i (pos 0)) (get_or t.counts i 0)

    its_line : lines_from t i ≡ line ++ lines_from t (i + 1)
    unfolding places_text
    its_line =
        let hs : i < length t.scores = omega (arith, w.scores) in
        let hc : i < length t.counts = omega (arith, w.counts) in
        rw (add-one i, drop-cons t.scores i (pos 0) hs, drop-cons t.counts i 0 hc, ne_eqb (get_or t.counts i 0) 0 u)

    pub goes : (out' : List ℕ) (at' : ℕ) → length line ≤ 11 → Put out at line out' at' → Shown t out₀ out' at' (i + 1)
    goes out' at' k p =
        record {
          places = omega arith;
          scores = w.scores;
          counts = w.counts;
          done = w.done ++ line;
          put = then w.put p;
          short = omega (arith, length-append w.done line, w.short);
          whole = w.whole ∙ rw its_line (sym (append_assoc w.done line (lines_from t (i + 1))));
        }
