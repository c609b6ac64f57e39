-- The words of the four seats, built place after place. Assumes nothing.
use Rattle.std.specs.Prelude.{if◌then◌else◌}
use mathlib.Core.Path.{◌≡◌, refl, sym, ap, ap₂, ◌∙◌}
use mathlib.Core.Bool.{true, false}
use mathlib.Core.List.{List, [], ◌∷◌, ◌++◌}
use Prim.Native.Nat.{ℕ, zero, suc, ◌+◌, ◌^◌, ◌≤◌, ◌<◌}
use native.Mathlib.Nat.{pow-suc, add-zero}
use native.Mathlib.Numerals.{add-one}
use native.Mathlib.Omega.{arith}
use borrow.Author.Tests.{eqb-true, eqb-false, eq-eqb, ne_eqb}
use lib.Dec.{eqb}
use lib.Pow.{pow_mono}
use lib.ListN.{length, get_or, take, set, replicate, length-set, length-take, get_or-replicate}
use lib.Seq.{take-suc, get_or-set_same, get_or-set_other, length-take-le, ext_get_or}
use Rattle.laws.proofs.Tests.{by_test}
use Rattle.deal.specs.Hands.{word_of, words_of}
use Rattle.deal.proofs.Words.{word_lt}

-- one place more, at the end: its bit is 2 to the number of places before it
word_end : (s : ℕ) (l : List ℕ) (x : ℕ) → word_of s (l ++ (x ∷ [])) ≡ word_of s l + (if eqb x s then 2 ^ length l else 0)
unfolding word_of
word_end s [] x = by_test (eqb x s) (λ (q : eqb x s ≡ true). rw q) (λ (q : eqb x s ≡ false). rw q)
word_end s (y ∷ l) x =
    let more = word_end s l x in
    by_test (eqb x s)
    (λ (q : eqb x s ≡ true). rw (q, pow-suc) (omega (arith, rw q at more)))
    (λ (q : eqb x s ≡ false). rw q (omega (arith, rw q at more)))

-- four words that are those of the seats' places in a list
pub record Built (words l : List ℕ) : Type 0 where
  pub four : length words ≡ 4
  pub seat : (s : ℕ) → s < 4 → get_or words s 0 ≡ word_of s l

pub none_built : Built (replicate 4 0) []
unfolding word_of
none_built = record { four = refl; seat = λ s h. get_or-replicate 4 s 0 0 h }

pub at_seat : (l : List ℕ) (s : ℕ) → s < 4 → get_or (words_of l) s 0 ≡ word_of s l
unfolding words_of
at_seat l zero h = refl
at_seat l (suc zero) h = refl
at_seat l (suc (suc zero)) h = refl
at_seat l (suc (suc (suc zero))) h = refl
at_seat l (suc (suc (suc (suc s)))) h = absurd (omega arith)

pub all_built : (words l : List ℕ) → Built words l → words ≡ words_of l
unfolding words_of
all_built words l b = ext_get_or 0 words (words_of l) b.four (λ s h. b.seat s (omega (arith, b.four)) ∙ sym (at_seat l s (omega (arith, b.four))))

-- place i of a list is x; the words of the places before it are built
module _ (words l : List ℕ) (i x : ℕ) (within : i < length l) (e : get_or l i 0 ≡ x) (b : Built words (take i l)) where
  next_word : (s : ℕ) → word_of s (take (i + 1) l) ≡ word_of s (take i l) + (if eqb x s then 2 ^ i else 0)
  next_word s =
      rw (add-one i, take-suc l i 0 within, e)
      (word_end s (take i l) x ∙ ap (λ (n : ℕ). word_of s (take i l) + (if eqb x s then 2 ^ n else 0)) (length-take-le i l (omega arith)))

  -- a holder that is no seat
  pub skips : 4 ≤ x → Built words (take (i + 1) l)
  skips h =
      record {
        four = b.four;
        seat = λ s low. b.seat s low ∙ sym (next_word s ∙ rw (ne_eqb x s (λ z. omega arith)) (add-zero (word_of s (take i l))));
      }

  -- a holder that is a seat
  pub gains : x < 4 → (bit : ℕ) → bit ≡ 2 ^ i → Built (set words x (get_or words x 0 + bit)) (take (i + 1) l)
  gains h bit q =
      record {
        four = length-set words x v ∙ b.four;
        seat = λ s low. by_test (eqb x s) (λ (t : eqb x s ≡ true). same s low (eqb-true x s t)) (λ (t : eqb x s ≡ false). other s low t);
      }
    where
      v : ℕ
      v = get_or words x 0 + bit

      same : (s : ℕ) → s < 4 → x ≡ s → get_or (set words x v) s 0 ≡ word_of s (take (i + 1) l)
      same s low z =
          rw (← z)
          (get_or-set_same words x v 0 (omega (arith, b.four))
          ∙ ap₂ ◌+◌ (b.seat x h) q
          ∙ sym (next_word x ∙ rw (eq-eqb x x refl)))

      other : (s : ℕ) → s < 4 → eqb x s ≡ false → get_or (set words x v) s 0 ≡ word_of s (take (i + 1) l)
      other s low t =
          get_or-set_other words x s v 0 (λ z. eqb-false x s t (sym z))
          ∙ b.seat s low
          ∙ sym (next_word s ∙ rw t (add-zero (word_of s (take i l))))

  -- the sum does not run over
  pub gain-fits : x < 4 → i < 52 → get_or words x 0 + 2 ^ i < 2 ^ 53
  gain-fits h low =
      rw (b.seat x h)
      (omega (arith, word_lt x (take i l) i (rw (length-take i l) (omega arith)), pow_mono {i = i} {j = 51} (omega arith)))
