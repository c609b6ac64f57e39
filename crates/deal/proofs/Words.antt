-- Laws of `word_of`: its bits are the places, its set bits are counted as the cards are. Assumes nothing.
use Rattle.std.specs.Prelude.{if◌then◌else◌}
use mathlib.Core.Path.{◌≡◌, refl, sym, ap, ap₂, ◌∙◌}
use mathlib.Core.Bool.{Bool, true, false}
use mathlib.Core.List.{List, [], ◌∷◌}
use Prim.Native.Nat.{ℕ, zero, suc, ◌+◌, ◌*◌, ◌/◌, ◌%◌, ◌^◌, ◌≤◌, ◌<◌}
use native.Mathlib.Nat.{not-suc-le-zero, le_of_suc-le-suc, mod-eq_of_lt, pow-suc, div-one, zero-div, zero-mod, mod-one}
use native.Mathlib.Numerals.{add-one, one-add}
use native.Mathlib.Omega.{arith}
use lib.Dec.{eqb}
use lib.Pow.{pow_pos, shr-shr, mod-pow-add}
use lib.Count.{ones, ones_step}
use lib.ListN.{length, get_or, take, drop}
use Rattle.laws.specs.Choice.{how_many}
use Rattle.laws.specs.Cards.{cards_dealt}
use Rattle.deal.specs.Hands.{word_of, suit_count}

-- a place's bit
abbrev pub bit : Bool → ℕ
bit b = if b then 1 else 0

bit_lt : (b : Bool) → bit b < 2
bit_lt true = omega arith
bit_lt false = omega arith

-- at most k places make a number below 2 ^ k
pub word_lt : (s : ℕ) (l : List ℕ) (k : ℕ) → length l ≤ k → word_of s l < 2 ^ k
unfolding word_of
word_lt s [] k h = pow_pos k
word_lt s (x ∷ t) zero h = absurd (not-suc-le-zero h)
word_lt s (x ∷ t) (suc k) h = rw pow-suc (omega (arith, word_lt s t k (le_of_suc-le-suc h), bit_lt (eqb x s)))

low_bit : (s x : ℕ) (t : List ℕ) → (word_of s t * 2 + bit (eqb x s)) % 2 ≡ bit (eqb x s)
low_bit s x t = omega (arith, bit_lt (eqb x s))

top-bits : (s x : ℕ) (t : List ℕ) → (word_of s t * 2 + bit (eqb x s)) / 2 ≡ word_of s t
top-bits s x t = omega (arith, bit_lt (eqb x s))

-- the bit of a card, as `card_bit` tells it
pub own_bit : {card b : ℕ} → card < 64 → b ≡ 2 ^ (card % 64) → b ≡ 2 ^ card
own_bit {card} h e = e ∙ ap (λ (n : ℕ). 2 ^ n) (mod-eq_of_lt h)

-- the set bits are the cards of the seat
pub ones_word : (s : ℕ) (l : List ℕ) → ones (word_of s l) ≡ cards_dealt s l
unfolding word_of cards_dealt how_many ones
ones_word s [] = refl
ones_word s (x ∷ t) =
    ones_step (word_of s t * 2 + bit (eqb x s))
    ∙ ap₂ (λ (a b : ℕ). a + ones b) (low_bit s x t) (top-bits s x t)
    ∙ ap (λ (n : ℕ). bit (eqb x s) + n) (ones_word s t)

-- the bits from k on are the places from k on, and the k lowest bits the first k places
pub word_drop : (s k : ℕ) (l : List ℕ) → word_of s l / 2 ^ k ≡ word_of s (drop k l)
unfolding word_of
word_drop s zero l = div-one (word_of s l)
word_drop s (suc k) [] = zero-div (2 ^ suc k)
word_drop s (suc k) (x ∷ t) =
    ap (λ (n : ℕ). (word_of s t * 2 + bit (eqb x s)) / 2 ^ n) (sym (one-add k))
    ∙ sym (shr-shr (word_of s t * 2 + bit (eqb x s)) 1 k)
    ∙ ap (λ (n : ℕ). n / 2 ^ k) (top-bits s x t)
    ∙ word_drop s k t

pub word_take : (s k : ℕ) (l : List ℕ) → word_of s l % 2 ^ k ≡ word_of s (take k l)
unfolding word_of
word_take s zero l = mod-one (word_of s l)
word_take s (suc k) [] = zero-mod (2 ^ suc k)
word_take s (suc k) (x ∷ t) =
    ap (λ (n : ℕ). (word_of s t * 2 + bit (eqb x s)) % 2 ^ n) (sym (add-one k))
    ∙ mod-pow-add (word_of s t * 2 + bit (eqb x s)) k 1
    ∙ ap₂ (λ (a b : ℕ). a % 2 ^ k * 2 + b) (top-bits s x t) (low_bit s x t)
    ∙ ap (λ (n : ℕ). n * 2 + bit (eqb x s)) (word_take s k t)

-- a place's bit is set where the seat holds the place
first_bit : (s d k : ℕ) (l : List ℕ) → k < length l → word_of s (drop k l) % 2 ≡ bit (eqb (get_or l k d) s)
unfolding word_of
first_bit s d k [] h = absurd (omega arith)
first_bit s d zero (x ∷ t) h = low_bit s x t
first_bit s d (suc k) (x ∷ t) h = first_bit s d k t (omega arith)

pub word_bit : (s d k : ℕ) (l : List ℕ) → k < length l → eqb (word_of s l / 2 ^ k % 2) 1 ≡ eqb (get_or l k d) s
word_bit s d k l h = rw (word_drop s k l, first_bit s d k l h) (is_set (eqb (get_or l k d) s))
  where
    is_set : (b : Bool) → eqb (bit b) 1 ≡ b
    is_set true = refl
    is_set false = refl

-- a suit's count is that of the set bits among its thirteen in the hand
pub suit-bits : (s suit : ℕ) (l : List ℕ) → ones (word_of s l / 2 ^ (13 * suit) % 2 ^ 13) ≡ suit_count s suit l
unfolding suit_count
suit-bits s suit l = rw (word_drop s (13 * suit) l, word_take s 13 (drop (13 * suit) l)) (ones_word s (take 13 (drop (13 * suit) l)))
