-- The words of what is found of the cards, an event at a time. Assumes nothing.
use Prim.Native.Nat.{ℕ, ◌<◌, ◌+◌, ◌*◌, ◌/◌, ◌%◌, ◌^◌}
use mathlib.Core.Path.{◌≡◌}
use native.Mathlib.Omega.{arith}
use Rattle.found.specs.Found.{push_word, last_of, pushed}
use Rattle.position.specs.History.{words_in}

-- ---- five words with an entry more
-- one word, and what stands above it
word_low : (x entry : ℕ) → entry < 4096 → push_word (x % 2 ^ 60) entry ≡ (x * 4096 + entry) % 2 ^ 60
unfolding push_word
word_low x entry h = omega arith

word_high : (x entry : ℕ) → entry < 4096 → (x * 4096 + entry) / 2 ^ 60 ≡ x / 2 ^ 60 * 4096 + last_of (x % 2 ^ 60)
unfolding last_of
word_high x entry h = omega arith

last-low : (x : ℕ) → last_of (x % 2 ^ 60) < 4096
unfolding last_of
last-low x = omega arith

pub pushed-words : (x entry : ℕ) → entry < 4096 → pushed (words_in 5 x) entry ≡ words_in 5 (x * 4096 + entry)
unfolding pushed words_in
pushed-words x entry h =
    let x₁ = x / 2 ^ 60 in
    let x₂ = x₁ / 2 ^ 60 in
    let x₃ = x₂ / 2 ^ 60 in
    let x₄ = x₃ / 2 ^ 60 in
    rw (
      word_high x entry h,
      word_high x₁ (last_of (x % 2 ^ 60)) (last-low x),
      word_high x₂ (last_of (x₁ % 2 ^ 60)) (last-low x₁),
      word_high x₃ (last_of (x₂ % 2 ^ 60)) (last-low x₂),
      word_low x entry h,
      word_low x₁ (last_of (x % 2 ^ 60)) (last-low x),
      word_low x₂ (last_of (x₁ % 2 ^ 60)) (last-low x₁),
      word_low x₃ (last_of (x₂ % 2 ^ 60)) (last-low x₂),
      word_low x₄ (last_of (x₃ % 2 ^ 60)) (last-low x₃),
    )
