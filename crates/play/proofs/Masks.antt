-- Words by a test of each place: the cards that pass two tests, a card taken out, and a seat's hand. Assumes nothing.
use Prim.Native.Nat.{ℕ, zero, suc, ◌<◌, ◌+◌, ◌*◌, ◌/◌, ◌%◌, ◌^◌, min}
use mathlib.Core.Path.{◌≡◌, refl, ap, ◌∙◌}
use mathlib.Core.Bool.{Bool, true, false, not, ◌&&◌}
use mathlib.Core.List.{List, [], ◌∷◌}
use native.Mathlib.Nat.{pow-suc}
use native.Mathlib.Omega.{arith}
use borrow.Author.Tests.{eqb-true, eqb-false, eq-eqb, ne_eqb}
use lib.Bits.{bit_and, bit_xor, and_step, xor_step, xor_zero_r, differ}
use lib.Dec.{eqb}
use lib.ListN.{length, get_or}
use Rattle.laws.specs.Cards.{no_seat}
use Rattle.laws.proofs.Tests.{by_test}
use Rattle.deal.specs.Hands.{word_of}
use Rattle.play.specs.Words.{bit_of}

-- n bits, the lowest first: bit i is set where i passes the test
unfoldable pub word_by : ℕ → (ℕ → Bool) → ℕ
word_by zero test = 0
word_by (suc n) test = word_by n (λ i. test (suc i)) * 2 + bit_of (test 0)

bit-low : (b : Bool) → bit_of b < 2
bit-low true = omega arith
bit-low false = omega arith

-- the lowest bit, and the others
pub half : (w : ℕ) (b : Bool) → (w * 2 + bit_of b) / 2 ≡ w
half w b = omega (arith, bit-low b)

pub lowest : (w : ℕ) (b : Bool) → (w * 2 + bit_of b) % 2 ≡ bit_of b
lowest w b = omega (arith, bit-low b)

both : (a b : Bool) → min (bit_of a) (bit_of b) ≡ bit_of (a && b)
both true true = refl
both true false = refl
both false true = refl
both false false = refl

-- tests that agree below n make one word
pub word_same : (n : ℕ) (f g : ℕ → Bool) → ((i : ℕ) → i < n → f i ≡ g i) → word_by n f ≡ word_by n g
unfolding word_by
word_same zero f g e = refl
word_same (suc n) f g e = rw (e 0 (omega arith), word_same n (λ i. f (suc i)) (λ i. g (suc i)) (λ i h. e (suc i) (omega arith)))

-- the bits of both words
pub word_and : (n : ℕ) (f g : ℕ → Bool) → bit_and (word_by n f) (word_by n g) ≡ word_by n (λ i. f i && g i)
unfolding word_by
word_and zero f g = refl
word_and (suc n) f g =
    let a = word_by n (λ i. f (suc i)) in
    let b = word_by n (λ i. g (suc i)) in
    and_step (a * 2 + bit_of (f 0)) (b * 2 + bit_of (g 0))
    ∙ rw (half a (f 0), half b (g 0), lowest a (f 0), lowest b (g 0), both (f 0) (g 0), word_and n (λ i. f (suc i)) (λ i. g (suc i)))

differ-none : (b : Bool) → differ (bit_of b) 0 ≡ bit_of b
differ-none true = refl
differ-none false = refl

pub suc-eqb : (a b : ℕ) → eqb (suc a) (suc b) ≡ eqb a b
suc-eqb a b =
    by_test (eqb a b)
    (λ (q : eqb a b ≡ true). rw q (eq-eqb (suc a) (suc b) (ap suc (eqb-true a b q))))
    (λ (q : eqb a b ≡ false). rw q (ne_eqb (suc a) (suc b) (λ e. omega (arith, eqb-false a b q))))

-- a set bit turned
pub word_without : (n c : ℕ) (f : ℕ → Bool) → c < n → f c ≡ true → bit_xor (word_by n f) (2 ^ c) ≡ word_by n (λ i. not (eqb c i) && f i)
unfolding word_by
word_without zero c f h e = absurd (omega arith)
word_without (suc n) zero f h e =
    let a = word_by n (λ i. f (suc i)) in
    xor_step (a * 2 + bit_of (f 0)) 1
    ∙ rw (half a (f 0), lowest a (f 0), e, xor_zero_r a)
    (ap (λ (w : ℕ). w * 2 + 0) (word_same n (λ i. f (suc i)) (λ i. not (eqb 0 (suc i)) && f (suc i)) (λ i b. rw (ne_eqb 0 (suc i) (λ q. omega arith)))))
word_without (suc n) (suc c) f h e =
    let a = word_by n (λ i. f (suc i)) in
    let twice_half : 2 ^ c * 2 / 2 ≡ 2 ^ c = omega arith in
    let twice_even : 2 ^ c * 2 % 2 ≡ 0 = omega arith in
    xor_step (a * 2 + bit_of (f 0)) (2 ^ suc c)
    ∙ rw (half a (f 0), lowest a (f 0), pow-suc, twice_half, twice_even, differ-none (f 0), ne_eqb (suc c) 0 (λ q. omega arith))
    (ap (λ (w : ℕ). w * 2 + bit_of (f 0)) (word_without n c (λ i. f (suc i)) (omega arith) e
    ∙ word_same n (λ i. not (eqb c i) && f (suc i)) (λ i. not (eqb (suc c) (suc i)) && f (suc i)) (λ i b. rw (suc-eqb c i))))

-- the word of a seat's places
pub word_places : (seat : ℕ) (l : List ℕ) → word_of seat l ≡ word_by (length l) (λ i. eqb (get_or l i no_seat) seat)
unfolding word_of word_by
word_places seat [] = refl
word_places seat (x ∷ l) = rw (word_places seat l)
