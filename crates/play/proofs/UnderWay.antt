-- The trick under way with one card more, and the numbers of a step. Assumes nothing.
use Prim.Native.Nat.{ℕ, zero, suc, ◌≤◌, ◌<◌, ◌+◌, ◌/◌, ◌%◌}
use mathlib.Core.Path.{◌≡◌, refl}
use mathlib.Core.Bool.{Bool, true, false, not, ◌&&◌, ◌||◌}
use mathlib.Core.List.{List, [], ◌∷◌}
use native.Mathlib.Omega.{arith}
use borrow.Author.Tests.{leb-true, leb-false}
use lib.Bits.{bit_or}
use lib.Dec.{eqb, leb}
use Rattle.laws.specs.Cards.{suit_of}
use Rattle.laws.specs.Law44.{cards_played, tricks_complete, cards_in_trick, trick_under_way, suit_led, winning_card, winner, leader, won_by, is_played}
use Rattle.laws.proofs.Tests.{by_test, not_both}
use Rattle.play.specs.declared.Won.{Won}
use Rattle.play.specs.Words.{bit_of, worth}
use Rattle.play.specs.History.{best_worth, told_of}
use Rattle.play.proofs.Cards.{trick-more, in_trick_last}
use Rattle.play.proofs.Cards.{not_in_trick}
use Rattle.play.proofs.Worth.{winner-low}

-- ---- the trick under way
-- one card more does not change the suit led
pub led_on : (c : ℕ) (t : List ℕ) → (cards_played t ≡ 0 → ⊥) → suit_led (c ∷ t) ≡ suit_led t
unfolding suit_led cards_played
led_on c [] h = absurd (h refl)
led_on c (d ∷ t) h = refl

pub none_under_way : (g : List ℕ) → cards_in_trick g ≡ 0 → trick_under_way g ≡ []
unfolding trick_under_way
none_under_way g e = rw e

-- the trick with one card more, complete or not
pub next-trick : (c : ℕ) (g : List ℕ) → (cards_in_trick (c ∷ g) ≡ 0 → ⊥) → trick_under_way (c ∷ g) ≡ c ∷ trick_under_way g
next-trick c g ne =
    by_test (leb 3 (cards_in_trick g))
    (λ (q : leb 3 (cards_in_trick g) ≡ true). absurd (ne (in_trick_last c g (leb-true 3 (cards_in_trick g) q))))
    (λ (q : leb 3 (cards_in_trick g) ≡ false). trick-more c g (leb-false 3 (cards_in_trick g) q))

pub four-over : (seat : ℕ) → seat < 4 → bit_or seat 4 ≡ 4 + seat
four-over zero h = refl
four-over (suc zero) h = refl
four-over (suc (suc zero)) h = refl
four-over (suc (suc (suc zero))) h = refl
four-over (suc (suc (suc (suc s)))) h = absurd (omega arith)

pub bit-low : (b : Bool) → bit_of b < 2
bit-low true = omega arith
bit-low false = omega arith

pub neither : (a b : Bool) → (not a && not b) ≡ not (a || b)
neither true b = refl
neither false b = refl

-- a card of the trick under way has been played
pub in_play : (g : List ℕ) (x : ℕ) → is_played (trick_under_way g) x ≡ true → is_played g x ≡ true
in_play g x e =
    by_test (is_played g x)
    (λ (q : is_played g x ≡ true). q)
    (λ (q : is_played g x ≡ false). not_both (is_played (trick_under_way g) x) e (not_in_trick g x q))

pub few-tricks : (c : ℕ) (g : List ℕ) → cards_played (c ∷ g) ≤ 52 → suc (tricks_complete g) ≤ 13
unfolding tricks_complete cards_played
few-tricks c g h = omega arith

-- the seat stands lowest in the worth
pub best-seat : (trump leader c : ℕ) (t : List ℕ) → best_worth trump leader (c ∷ t) % 4 ≡ winner trump leader (c ∷ t)
unfolding best_worth worth
best-seat trump leader c t = omega (arith, winner-low trump leader c t)

-- the card stands above it
pub best-card : (trump leader c : ℕ) (t : List ℕ) → winning_card trump (c ∷ t) < 52 → best_worth trump leader (c ∷ t) / 4 % 64 ≡ winning_card trump (c ∷ t)
unfolding best_worth worth
best-card trump leader c t h =
    let w = winning_card trump (c ∷ t) in
    let led = suit_led (c ∷ t) in
    omega (arith, winner-low trump leader c t, bit-low (eqb (suit_of w) trump), bit-low (eqb (suit_of w) led))

-- the answer by a trick's best worth is Law 44's
pub best-answer : (trump leader c : ℕ) (t : List ℕ) (best : ℕ) → best ≡ best_worth trump leader (c ∷ t) → winning_card trump (c ∷ t) < 52
    → ◌≡◌ {A = Won} (record { seat = best % 4; card = best / 4 % 64 }) (told_of (won_by trump leader (c ∷ t)))
unfolding won_by
best-answer trump leader c t best e h = rw (e, best-seat trump leader c t, best-card trump leader c t h)

pub won_by_lem : (trump opening c : ℕ) (g : List ℕ) → cards_in_trick (c ∷ g) ≡ 0 → leader trump opening (c ∷ g)
    ≡ winner trump (leader trump opening g) (c ∷ trick_under_way g)
unfolding leader
won_by_lem trump opening c g e = rw e

pub in_trick_test : (c : ℕ) (g : List ℕ) → eqb (cards_played (c ∷ g) % 4) 0 ≡ eqb (cards_in_trick (c ∷ g)) 0
unfolding cards_in_trick
in_trick_test c g = refl

pub one_more : (c : ℕ) (g : List ℕ) → cards_played (c ∷ g) ≤ 52 → cards_played g % 64 + 1 ≡ cards_played (c ∷ g)
unfolding cards_played
one_more c g h = omega arith
