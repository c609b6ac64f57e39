-- The complete tricks that a position tells are the Laws': their number, their answers, and those of each side. Assumes nothing.
use Prim.Native.Nat.{ℕ, suc, ◌≤◌, ◌<◌, ◌+◌, ◌*◌, ◌/◌, ◌%◌}
use mathlib.Core.Path.{◌≡◌, refl, sym, ap, ◌∙◌}
use mathlib.Core.Bool.{true, false}
use mathlib.Core.List.{List, [], ◌∷◌, map, map-append}
use native.Mathlib.Omega.{arith}
use borrow.Author.Tests.{ne_eqb, ltb-true, ltb-false}
use lib.Dec.{eqb, ltb}
use lib.ListN.{length, length-append}
use Rattle.laws.specs.Law44.{cards_played, tricks_complete, cards_in_trick, leader, won_by, won_tricks, winners, winner, winning_card, trick_under_way, suit_led}
use Rattle.laws.proofs.Tests.{by_test}
use Rattle.laws.proofs.TricksWon.{won-same, won-more, winners-long}
use Rattle.play.specs.declared.Won.{Won}
use Rattle.play.specs.Told as Told
use Rattle.play.specs.Told.{complete_in, answers_in, tricks_in}
use Rattle.play.specs.History.{position_of, AllPlayed, entries_of, fours_of, low_of, high_of, told_of, tricks_of}
use Rattle.play.proofs.Cards.{tricks-same, tricks-more, in_trick_more, in_trick_last}
use Rattle.play.proofs.Thirteen.{at_most_52}
use Rattle.play.proofs.Worth.{winner-low}
use Rattle.play.proofs.UnderWay.{won_by_lem}
use Rattle.play.proofs.Stands.{winning_low, stands}

-- ---- how many tricks are complete
-- three cards in the trick under way, and the next completes it; fewer, and it does not
in_trick_same : (c : ℕ) (g : List ℕ) → cards_in_trick g < 3 → eqb (cards_in_trick (c ∷ g)) 0 ≡ false
in_trick_same c g h = rw (in_trick_more c g h) (ne_eqb (suc (cards_in_trick g)) 0 (λ e. omega arith))

completes : (c : ℕ) (g : List ℕ) → 3 ≤ cards_in_trick g → eqb (cards_in_trick (c ∷ g)) 0 ≡ true
completes c g h = rw (in_trick_last c g h)

pub answers-count : (trump opening : ℕ) (g : List ℕ) → length (won_tricks trump opening g) ≡ tricks_complete g
unfolding won_tricks tricks_complete cards_played
answers-count trump opening [] = refl
answers-count trump opening (c ∷ g) =
    by_test (ltb (cards_in_trick g) 3)
    (λ (q : ltb (cards_in_trick g) 3 ≡ true).
    let k = ltb-true (cards_in_trick g) 3 q in
    ap length (won-same trump opening c g (in_trick_same c g k)) ∙ answers-count trump opening g ∙ sym (tricks-same c g k))
    (λ (q : ltb (cards_in_trick g) 3 ≡ false).
    let k = ltb-false (cards_in_trick g) 3 q in
    ap length (won-more trump opening c g (completes c g k)) ∙ length-append (won_tricks trump opening g) _
    ∙ omega (arith, answers-count trump opening g, tricks-more c g k))

pub winners-count : (trump opening : ℕ) (g : List ℕ) → length (winners trump opening g) ≡ tricks_complete g
winners-count trump opening g = winners-long trump opening g ∙ answers-count trump opening g

-- ---- the answers by the entries and the words of the cards that won
entry-winner : (e l s : ℕ) → l < 4 → (e * 16 + l % 4 * 4 + s % 4) / 4 % 4 ≡ l
entry-winner e l s h = omega arith

entry-before : (e l s : ℕ) → (e * 16 + l % 4 * 4 + s % 4) / 16 ≡ e
entry-before e l s = omega arith

fours-before : (a b : ℕ) → (a * 16 + b % 16) / 16 ≡ a
fours-before a b = omega arith

fours-card : (low high card : ℕ) → card < 52 → (high * 16 + card / 16 % 16) % 16 * 16 + (low * 16 + card % 16) % 16 ≡ card
fours-card low high card h = omega arith

module _ (deal : List ℕ) (trump opening : ℕ) (all : length deal ≡ 52) where
  abbrev answers_at : ℕ → List ℕ → List Won
  answers_at n g = answers_in n (entries_of trump opening g) (fours_of (low_of trump) g) (fours_of (high_of trump) g)

  answers_law : (g : List ℕ) → AllPlayed deal trump opening g → answers_at (tricks_complete g) g ≡ map told_of (won_tricks trump opening g)
  unfolding answers_in entries_of fours_of won_tricks tricks_complete cards_played AllPlayed won_by
  answers_law [] w = refl
  answers_law (c ∷ g) w =
      by_test (ltb (cards_in_trick g) 3)
      (λ (q : ltb (cards_in_trick g) 3 ≡ true).
      let k = ltb-true (cards_in_trick g) 3 q in
      rw (tricks-same c g k, in_trick_same c g k) (answers_law g w.1))
      (λ (q : ltb (cards_in_trick g) 3 ≡ false).
      let k = ltb-false (cards_in_trick g) 3 q in
      let last = in_trick_last c g k in
      let e = entries_of trump opening g in
      let low = fours_of (low_of trump) g in
      let high = fours_of (high_of trump) g in
      let t = c ∷ trick_under_way g in
      let l = winner trump (leader trump opening g) t in
      let x = winning_card trump t in
      rw (
        tricks-more c g k,
        last,
        won_by_lem trump opening c g last,
        entry-before e l (suit_led t),
        entry-winner e l (suit_led t) (winner-low trump (leader trump opening g) c (trick_under_way g)),
        fours-before low x,
        fours-before high (x / 16),
        fours-card low high x (winning_low deal trump opening all c g w),
        answers_law g w.1,
      ) (sym (map-append told_of (won_tricks trump opening g) _)))

module _ (deal : List ℕ) (trump opening : ℕ) (all : length deal ≡ 52) where
  pub complete_law : (g : List ℕ) → AllPlayed deal trump opening g → complete_in (position_of deal trump opening g) ≡ tricks_complete g
  unfolding complete_in tricks_complete
  complete_law g w =
      let most = at_most_52 deal trump opening all g w in
      rw (stands deal trump opening all g w).played (by_test (ltb (cards_played g) 52)
      (λ (q : ltb (cards_played g) 52 ≡ true). rw q)
      (λ (q : ltb (cards_played g) 52 ≡ false). rw q (omega (arith, ltb-false (cards_played g) 52 q))))

  pub tricks_law : (g : List ℕ) → AllPlayed deal trump opening g → tricks_in (position_of deal trump opening g) ≡ tricks_of trump opening g
  unfolding tricks_in tricks_of
  tricks_law g w =
      let s = stands deal trump opening all g w in
      rw (complete_law g w, s.tricks, s.low, s.high) (ap Told.tricks_of (answers_law deal trump opening all g w))
