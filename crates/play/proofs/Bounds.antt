-- Words that grow by four bits with each complete trick do not run over. Assumes nothing.
use Rattle.std.specs.Prelude.{if◌then◌else◌}
use Prim.Native.Nat.{ℕ, suc, ◌<◌, ◌+◌, ◌*◌, ◌%◌, ◌^◌}
use mathlib.Core.Path.{◌≡◌, refl}
use mathlib.Core.Bool.{true, false}
use mathlib.Core.List.{List, [], ◌∷◌}
use native.Mathlib.Nat.{pow-suc}
use native.Mathlib.Omega.{arith}
use borrow.Author.Tests.{ne_eqb, leb-true, leb-false}
use lib.Dec.{eqb, leb}
use Rattle.laws.specs.Law44.{cards_played, tricks_complete, cards_in_trick, trick_under_way, suit_led, leader}
use Rattle.laws.proofs.Tests.{by_test}
use Rattle.play.specs.History.{entries_of, fours_of}
use Rattle.play.proofs.Cards.{in_trick_more, in_trick_last, tricks-same, tricks-more}

-- a word with so many entries before the first trick
module _ (word : List ℕ → ℕ) (digit : ℕ → List ℕ → ℕ) (before : ℕ) (small : (c : ℕ) (g : List ℕ) → digit c g < 16)
    (grows : (c : ℕ) (g : List ℕ) → word (c ∷ g) ≡ (if eqb (cards_in_trick (c ∷ g)) 0 then word g * 16 + digit c g else word g)) where
  word_low : word [] < 16 ^ before → (g : List ℕ) → word g < 16 ^ (before + tricks_complete g)
  unfolding tricks_complete cards_played
  word_low h [] = let e : before + 0 ≡ before = omega arith in rw e h
  word_low h (c ∷ g) =
      let low = word_low h g in
      by_test (leb 3 (cards_in_trick g))
      (λ (q : leb 3 (cards_in_trick g) ≡ true).
      let k = leb-true 3 (cards_in_trick g) q in
      let more : before + suc (tricks_complete g) ≡ suc (before + tricks_complete g) = omega arith in
      rw (grows c g, in_trick_last c g k, tricks-more c g k, more, pow-suc) (omega (arith, small c g)))
      (λ (q : leb 3 (cards_in_trick g) ≡ false).
      let k = leb-false 3 (cards_in_trick g) q in
      rw (grows c g, in_trick_more c g k, ne_eqb (suc (cards_in_trick g)) 0 (λ e. omega arith), tricks-same c g k) low)

-- the entries of the tricks, above them the opening leader
module _ (trump opening : ℕ) where
  abbrev entry : ℕ → List ℕ → ℕ
  entry c g = leader trump opening (c ∷ g) % 4 * 4 + suit_led (c ∷ trick_under_way g) % 4

  entries_grow : (c : ℕ) (g : List ℕ)
      → entries_of trump opening (c ∷ g)
      ≡ (if eqb (cards_in_trick (c ∷ g)) 0 then entries_of trump opening g * 16 + entry c g else entries_of trump opening g)
  unfolding entries_of
  entries_grow c g =
      by_test (eqb (cards_in_trick (c ∷ g)) 0)
      (λ (q : eqb (cards_in_trick (c ∷ g)) 0 ≡ true). rw q (omega arith))
      (λ (q : eqb (cards_in_trick (c ∷ g)) 0 ≡ false). rw q)

  pub entries-low : (g : List ℕ) → entries_of trump opening g < 16 ^ suc (tricks_complete g)
  unfolding entries_of
  entries-low g =
      let one : 1 + tricks_complete g ≡ suc (tricks_complete g) = omega arith in
      rw (← one) (word_low (entries_of trump opening) entry 1 (λ c h. omega arith) entries_grow (omega arith) g)

-- four bits of each trick's number
pub fours_low : (number : List ℕ → ℕ) (g : List ℕ) → fours_of number g < 16 ^ tricks_complete g
unfolding fours_of
fours_low number g =
    let none : 0 + tricks_complete g ≡ tricks_complete g = omega arith in
    rw (← none) (word_low (fours_of number) (λ c h. number (c ∷ trick_under_way h) % 16) 0 (λ c h. omega arith) (λ c h. refl) (omega arith) g)
