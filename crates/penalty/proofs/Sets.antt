-- Words by a test of each card: unions, differences, one card, a suit, and a card in common. Assumes nothing.
use Prim.Native.Nat.{ℕ, zero, suc, ◌<◌, ◌+◌, ◌-◌, ◌*◌, ◌/◌, ◌^◌, max}
use mathlib.Core.Path.{◌≡◌, refl, sym, ap, ◌∙◌}
use mathlib.Core.Bool.{Bool, true, false, not, ◌&&◌, ◌||◌}
use native.Mathlib.Nat.{pow-suc}
use native.Mathlib.Omega.{arith}
use borrow.Author.Tests.{eqb-true, eq-eqb, ne_eqb, lt-leb, le-leb}
use lib.Bits.{bit_and, bit_or, bit_xor, or_step, xor_step, differ}
use lib.Count.{ones, ones_step}
use lib.Dec.{eqb}
use Rattle.laws.specs.Choice.{some_below}
use Rattle.laws.specs.Law44.{is_of}
use Rattle.laws.proofs.Tests.{by_test, not_both, and_left, and_right, same_test}
use Rattle.laws.proofs.Counts.{below-some, some_below_lem}
use Rattle.play.specs.Words.{bit_of}
use Rattle.play.proofs.Masks.{word_by, word_same, word_and, half, lowest, suc-eqb}
use Rattle.penalty.specs.Words.{card_word, suit_word, meets, without}

-- a suit's cards do not run over
pub suit-fits : (suit : ℕ) → suit < 4 → 8191 * 2 ^ (13 * suit) < 2 ^ 64
suit-fits zero h = omega arith
suit-fits (suc zero) h = omega arith
suit-fits (suc (suc zero)) h = omega arith
suit-fits (suc (suc (suc zero))) h = omega arith
suit-fits (suc (suc (suc (suc s)))) h = absurd (omega arith)

-- ---- two words
-- one step of two words
pub either-bit : (a b : Bool) → max (bit_of a) (bit_of b) ≡ bit_of (a || b)
either-bit true true = refl
either-bit true false = refl
either-bit false true = refl
either-bit false false = refl

pub word_or : (n : ℕ) (f g : ℕ → Bool) → bit_or (word_by n f) (word_by n g) ≡ word_by n (λ i. f i || g i)
unfolding word_by
word_or zero f g = refl
word_or (suc n) f g =
    let a = word_by n (λ i. f (suc i)) in
    let b = word_by n (λ i. g (suc i)) in
    or_step (a * 2 + bit_of (f 0)) (b * 2 + bit_of (g 0))
    ∙ rw (half a (f 0), half b (g 0), lowest a (f 0), lowest b (g 0), either-bit (f 0) (g 0), word_or n (λ i. f (suc i)) (λ i. g (suc i)))

other-bit : (b : Bool) → differ 1 (bit_of b) ≡ bit_of (not b)
other-bit true = refl
other-bit false = refl

word_not : (n : ℕ) (g : ℕ → Bool) → bit_xor (word_by n (λ i. true)) (word_by n g) ≡ word_by n (λ i. not (g i))
unfolding word_by
word_not zero g = refl
word_not (suc n) g =
    let a = word_by n (λ i. true) in
    let b = word_by n (λ i. g (suc i)) in
    xor_step (a * 2 + bit_of true) (b * 2 + bit_of (g 0))
    ∙ rw (half a true, half b (g 0), lowest a true, lowest b (g 0), other-bit (g 0), word_not n (λ i. g (suc i)))

all_word : 2 ^ 52 - 1 ≡ word_by 52 (λ i. true)
unfolding word_by
all_word = refl

pub word_without : (f g : ℕ → Bool) → without (word_by 52 f) (word_by 52 g) ≡ word_by 52 (λ i. f i && not (g i))
unfolding without
word_without f g =
    ap (λ (x : ℕ). bit_and (word_by 52 f) (bit_xor x (word_by 52 g))) all_word
    ∙ rw (word_not 52 g) (word_and 52 f (λ i. not (g i)))

-- all cards but those of a set
pub word_free : (g : ℕ → Bool) → without (2 ^ 52 - 1) (word_by 52 g) ≡ word_by 52 (λ i. not (g i))
word_free g = ap (λ (x : ℕ). without x (word_by 52 g)) all_word ∙ word_without (λ i. true) g

-- ---- one card, and a suit
pub word_none : (n : ℕ) → word_by n (λ i. false) ≡ 0
unfolding word_by
word_none zero = refl
word_none (suc n) = rw (word_none n)

one_bit : (n c : ℕ) → c < n → 2 ^ c ≡ word_by n (λ i. eqb c i)
unfolding word_by
one_bit zero c h = absurd (omega arith)
one_bit (suc n) zero h =
    let none = word_same n (λ i. eqb 0 (suc i)) (λ i. false) (λ i b. ne_eqb 0 (suc i) (λ z. omega arith)) ∙ word_none n in
    rw none
one_bit (suc n) (suc c) h =
    rw (pow-suc, ne_eqb (suc c) 0 (λ z. omega arith), word_same n (λ i. eqb (suc c) (suc i)) (λ i. eqb c i) (λ i b. suc-eqb c i), ← one_bit n c (omega arith))
    (omega arith)

pub word_card : (card : ℕ) → card < 52 → card_word card ≡ word_by 52 (λ i. eqb card i)
unfolding card_word
word_card card h = rw (lt-leb 52 card h) (one_bit 52 card h)

pub word_suit : (suit : ℕ) → suit_word suit ≡ word_by 52 (λ i. is_of suit i)
unfolding suit_word word_by
word_suit zero = refl
word_suit (suc zero) = refl
word_suit (suc (suc zero)) = refl
word_suit (suc (suc (suc zero))) = refl
word_suit (suc (suc (suc (suc s)))) =
    rw (le-leb 4 (suc (suc (suc (suc s)))) (omega arith))
    (sym (word_none 52)
    ∙ word_same 52 (λ i. false) (λ i. is_of (suc (suc (suc (suc s)))) i) (λ i b. sym (ne_eqb (i / 13) (suc (suc (suc (suc s)))) (λ z. omega arith))))

-- ---- a card in common
ones_half : (w : ℕ) (b : Bool) → ones (w * 2 + bit_of b) ≡ bit_of b + ones w
ones_half w b = ones_step (w * 2 + bit_of b) ∙ rw (half w b, lowest w b)

counted : (n : ℕ) (f : ℕ → Bool) (k : ℕ) → k < n → f k ≡ true → 0 < ones (word_by n f)
unfolding word_by
counted zero f k h e = absurd (omega arith)
counted (suc n) f zero h e = rw (ones_half (word_by n (λ i. f (suc i))) (f 0), e) (omega arith)
counted (suc n) f (suc k) h e = rw (ones_half (word_by n (λ i. f (suc i))) (f 0)) (omega (arith, counted n (λ i. f (suc i)) k (omega arith) e))

uncounted : (n : ℕ) (f : ℕ → Bool) → ((k : ℕ) → k < n → f k ≡ false) → ones (word_by n f) ≡ 0
unfolding word_by ones
uncounted zero f e = refl
uncounted (suc n) f e =
    rw (ones_half (word_by n (λ i. f (suc i))) (f 0), e 0 (omega arith)) (omega (arith, uncounted n (λ i. f (suc i)) (λ k h. e (suc k) (omega arith))))

pub none_below : (f : ℕ → Bool) → some_below 52 f ≡ false → (k : ℕ) → k < 52 → f k ≡ false
none_below f q k h = by_test (f k) (λ (t : f k ≡ true). not_both (some_below 52 f) (some_below_lem f 52 k h t) q) (λ (t : f k ≡ false). t)

-- a word has a bit exactly when some card passes the test
pub ones-some : (f : ℕ → Bool) → not (eqb (ones (word_by 52 f)) 0) ≡ some_below 52 f
ones-some f =
    by_test (some_below 52 f)
    (λ (q : some_below 52 f ≡ true).
    let k = below-some f 52 q in
    rw (q, ne_eqb (ones (word_by 52 f)) 0 (λ z. omega (arith, counted 52 f k.0 k.1 k.2))))
    (λ (q : some_below 52 f ≡ false).
    rw (q, uncounted 52 f (none_below f q)))

pub word_meets : (f g : ℕ → Bool) → meets (word_by 52 f) (word_by 52 g) ≡ some_below 52 (λ i. f i && g i)
unfolding meets
word_meets f g = rw (word_and 52 f g) (ones-some (λ i. f i && g i))

-- a word has the card's bit exactly when the card passes the test
pub word_has : (f : ℕ → Bool) (card : ℕ) → card < 52 → meets (word_by 52 f) (card_word card) ≡ f card
word_has f card h =
    rw (word_card card h, word_meets f (λ i. eqb card i)) (same_test (some_below 52 (λ i. f i && eqb card i)) (f card)
    (λ e.
    let k = below-some (λ i. f i && eqb card i) 52 e in
    rw (eqb-true card k.0 (and_right (f k.0) (eqb card k.0) k.2)) (and_left (f k.0) (eqb card k.0) k.2))
    (λ e. some_below_lem (λ i. f i && eqb card i) 52 card h (rw (e, eq-eqb card card refl))))

-- a word is 0 exactly when no card passes the test
pub word_zero : (f : ℕ → Bool) → eqb (word_by 52 f) 0 ≡ not (some_below 52 f)
unfolding ones
word_zero f =
    by_test (some_below 52 f)
    (λ (q : some_below 52 f ≡ true).
    rw (q, ne_eqb (word_by 52 f) 0 (λ z. not_both true refl (sym (ones-some f ∙ q) ∙ ap (λ (w : ℕ). not (eqb (ones w) 0)) z))))
    (λ (q : some_below 52 f ≡ false).
    let none = word_same 52 f (λ i. false) (λ k h. none_below f q k h) ∙ word_none 52 in
    rw (q, none))
