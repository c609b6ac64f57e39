-- What a line says, by the tests that the code makes. Assumes nothing.
use Rattle.std.specs.Prelude.{Option, Some, None, if◌then◌else◌}
use Prim.Native.Nat.{ℕ, zero, suc, ◌≤◌, ◌<◌}
use native.Mathlib.Omega.{arith}
use mathlib.Core.Path.{◌≡◌, refl, sym, ap, ◌∙◌}
use mathlib.Core.Bool.{Bool, true, false, not, ◌&&◌, ◌||◌}
use mathlib.Core.List.{List, [], ◌∷◌}
use borrow.Author.Tests.{lt-leb, le-leb, eq-eqb, ne_eqb}
use lib.Dec.{leb, eqb}
use lib.IntN.{ℤ, pos, negsuc, neg_ℤ, nat_abs, ◌-ℤ◌, +ℤ_idl}
use lib.ListN.{length, get_or, drop}
use mir.Syntax.{w16}
use mir.Val.{SFits, to_z, of_z}
use mir.Facts.{to_z-of_z, to_z_pos}
use Rattle.laws.specs.Decimal.{starts_with, is_number, value, value_after}
use Rattle.laws.specs.Law77.{valid_score}
use Rattle.laws.specs.Sheet.{is_zero, is_size, score_of, is_score}
use Rattle.laws.proofs.Integers.{size_neg, mag-le-size}
use Rattle.score.proofs.Validity.{valid-size}
use Rattle.laws.proofs.Tests.{by_test}
use Rattle.decimal.specs.Numbers.{number_on}
use Rattle.score_lines.specs.Reading.{size_on, if_valid, positive_of, negative_of, signed_of, said_on}

-- ---- a size
module _ (s : List ℕ) where
  pub size_none : length s ≡ 0 → None ≡ size_on s
  unfolding size_on is_size is_number
  size_none e = rw (lt-leb 1 (length s) (omega arith)) (both_false (not (starts_with 48 s)) (leb (length s) 4))
    where
      both_false : (a b : Bool) → None ≡ (if a && (b && false) then Some (value s) else None)
      both_false true true = refl
      both_false true false = refl
      both_false false b = refl

  pub size-long : 4 < length s → None ≡ size_on s
  unfolding size_on is_size
  size-long h = rw (lt-leb (length s) 4 h) (either (not (starts_with 48 s)))
    where
      either : (a : Bool) → None ≡ (if a && false then Some (value s) else None)
      either true = refl
      either false = refl

starts : (s : List ℕ) (b : ℕ) → (length s ≡ 0 → ⊥) → starts_with b s ≡ eqb (get_or s 0 0) b
unfolding starts_with
starts [] b h = absurd (h refl)
starts (x ∷ s) b h = refl

module _ (s : List ℕ) (some : length s ≡ 0 → ⊥) where
  pub size-zero : get_or s 0 0 ≡ 48 → None ≡ size_on s
  unfolding size_on is_size
  size-zero e = rw (starts s 48 some, eq-eqb (get_or s 0 0) 48 e)

  pub size_digits : length s ≤ 4 → (get_or s 0 0 ≡ 48 → ⊥) → number_on s ≡ size_on s
  unfolding size_on is_size number_on
  size_digits h f = rw (starts s 48 some, ne_eqb (get_or s 0 0) 48 f, le-leb (length s) 4 h)

-- ---- a score
pub over : (z : ℤ) → 7600 < nat_abs z → valid_score z ≡ false
unfolding valid_score
over z h = rw (lt-leb (nat_abs z) 7600 h)

positive_over : (n : ℕ) → 7600 < n → None ≡ positive_of (Some n)
unfolding positive_of if_valid
positive_over n h = rw (over (pos n) h)

negative_over : (n : ℕ) → 7600 < n → None ≡ negative_of (Some n)
unfolding negative_of if_valid
negative_over zero h = absurd (omega arith)
negative_over (suc n) h = rw (over (negsuc n) h)

-- a score that the code tested
module _ (z : ℤ) (r : Bool) (f : SFits w16 z) (e : r ≡ valid_score (to_z w16 (of_z w16 z))) where
  pub valid-said : r ≡ true → Some (to_z w16 (of_z w16 z)) ≡ if_valid z
  unfolding if_valid
  valid-said t =
      let v : valid_score z ≡ true = sym (ap valid_score (to_z-of_z f)) ∙ sym e ∙ t in
      rw (to_z-of_z f, v)

  pub not_valid : r ≡ false → None ≡ if_valid z
  unfolding if_valid
  not_valid t =
      let v : valid_score z ≡ false = sym (ap valid_score (to_z-of_z f)) ∙ sym e ∙ t in
      rw v

-- a size within the valid scores, as the code's signed number, and with a minus
pub as_signed : (n : ℕ) → n ≤ 7600 → to_z w16 n ≡ pos n
as_signed n h = to_z_pos w16 (omega arith)

pub minus-fits : (n : ℕ) → n ≤ 7600 → SFits w16 (pos 0 -ℤ to_z w16 n)
minus-fits n h = rw (as_signed n h, +ℤ_idl) (record { sfits = omega (arith, mag-le-size (neg_ℤ (pos n)), size_neg (pos n)) })

-- no score, with a minus or without one
pub none-signed : (minus : Bool) {n : Option ℕ} → n ≡ None → None ≡ signed_of minus n
unfolding positive_of negative_of
none-signed true e = rw e
none-signed false e = rw e

pub over-signed : (minus : Bool) {n : Option ℕ} {size : ℕ} → n ≡ Some size → 7600 < size → None ≡ signed_of minus n
over-signed true {size = size} e h = negative_over size h ∙ ap negative_of (sym e)
over-signed false {size = size} e h = positive_over size h ∙ ap positive_of (sym e)

pub positive_said : (n : Option ℕ) (size : ℕ) (r : Option ℤ) → n ≡ Some size → size ≤ 7600 → r ≡ if_valid (to_z w16 size) → r ≡ positive_of n
unfolding positive_of
positive_said n size r e h q = q ∙ rw (as_signed size h, e)

pub negative_said : (n : Option ℕ) (size : ℕ) (r : Option ℤ) → n ≡ Some size → size ≤ 7600
    → r ≡ if_valid (to_z w16 (of_z w16 (pos 0 -ℤ to_z w16 size))) → r ≡ negative_of n
unfolding negative_of
negative_said n size r e h q = q ∙ rw (to_z-of_z (minus-fits size h), as_signed size h, +ℤ_idl, e)

module _ (s : List ℕ) where
  pub said-none : length s ≡ 0 → None ≡ said_on s
  unfolding said_on is_score is_zero is_size is_number starts_with
  said-none e = go s e
    where
      go : (s : List ℕ) → length s ≡ 0 → None ≡ said_on s
      go [] e = refl
      go (b ∷ l) e = absurd (omega arith)

-- a score that is said, where its size stands
by_size : (z : ℤ) (b : Bool) → (if b && valid_score z then Some z else None) ≡ (if b then if_valid z else None)
unfolding if_valid
by_size z true = refl
by_size z false = refl

positive_size : (s : List ℕ) → positive_of (size_on s) ≡ (if is_size s then if_valid (pos (value s)) else None)
unfolding size_on positive_of
positive_size s = by_test (is_size s) (λ (q : is_size s ≡ true). rw q) (λ (q : is_size s ≡ false). rw q)

negative_size : (s : List ℕ) → negative_of (size_on s) ≡ (if is_size s then if_valid (neg_ℤ (pos (value s))) else None)
unfolding size_on negative_of
negative_size s = by_test (is_size s) (λ (q : is_size s ≡ true). rw q) (λ (q : is_size s ≡ false). rw q)

or_right : (a b : Bool) → a ≡ false → (a || b) ≡ b
or_right a b e = rw e

zero-value : (s : List ℕ) → length s ≤ 1 → get_or s 0 0 ≡ 48 → value s ≡ 0
unfolding value_after
zero-value [] h e = refl
zero-value (b ∷ []) h e = omega arith
zero-value (b ∷ x ∷ l) h e = absurd (omega arith)

module _ (s : List ℕ) (some : length s ≡ 0 → ⊥) where
  pub said-minus : get_or s 0 0 ≡ 45 → negative_of (size_on (drop 1 s)) ≡ said_on s
  unfolding said_on is_score score_of is_zero
  said-minus e =
      let m : starts_with 45 s ≡ true = starts s 45 some ∙ eq-eqb (get_or s 0 0) 45 e in
      let z : starts_with 48 s ≡ false = starts s 48 some ∙ rw e in
      rw (m, z) (or_size (eqb (length s) 1))
    where
      or_size : (b : Bool)
          → negative_of (size_on (drop 1 s))
          ≡ (if ((b && false) || is_size (drop 1 s)) && valid_score (neg_ℤ (pos (value (drop 1 s)))) then Some (neg_ℤ (pos (value (drop 1 s)))) else None)
      or_size true = negative_size (drop 1 s) ∙ sym (by_size (neg_ℤ (pos (value (drop 1 s)))) (is_size (drop 1 s)))
      or_size false = negative_size (drop 1 s) ∙ sym (by_size (neg_ℤ (pos (value (drop 1 s)))) (is_size (drop 1 s)))

  module _ (plain : get_or s 0 0 ≡ 45 → ⊥) where
    no_minus : starts_with 45 s ≡ false
    no_minus = starts s 45 some ∙ ne_eqb (get_or s 0 0) 45 plain

    not-zero : is_zero s ≡ false → positive_of (size_on s) ≡ said_on s
    unfolding said_on is_score score_of
    not-zero z = rw (no_minus, z) (positive_size s ∙ sym (by_size (pos (value s)) (is_size s)))

    pub said-long : 1 < length s → positive_of (size_on s) ≡ said_on s
    unfolding is_zero
    said-long h = not-zero (rw (ne_eqb (length s) 1 (λ e. omega arith)))

    pub said-digit : (get_or s 0 0 ≡ 48 → ⊥) → positive_of (size_on s) ≡ said_on s
    unfolding is_zero
    said-digit f = not-zero (rw (starts s 48 some, ne_eqb (get_or s 0 0) 48 f) (either (eqb (length s) 1)))
      where
        either : (a : Bool) → (a && false) ≡ false
        either true = refl
        either false = refl

    pub said-zero : length s ≤ 1 → get_or s 0 0 ≡ 48 → Some (pos 0) ≡ said_on s
    unfolding said_on is_score score_of is_zero valid_score
    said-zero h e =
        let one : length s ≡ 1 = omega arith in
        rw (no_minus, starts s 48 some, eq-eqb (get_or s 0 0) 48 e, eq-eqb (length s) 1 one, zero-value s h e)

-- a valid score fits the code's type
pub valid-fits : (z : ℤ) → valid_score z ≡ true → SFits w16 z
valid-fits z v = record { sfits = omega (arith, valid-size z v, mag-le-size z) }
