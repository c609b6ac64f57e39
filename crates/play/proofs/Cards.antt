-- Counting the cards of a history: the trick under way after one card more, and what an allowed card tells. Assumes nothing.
use Prim.Native.Nat.{ℕ, zero, suc, ◌≤◌, ◌<◌}
use mathlib.Core.Path.{◌≡◌, refl}
use mathlib.Core.Bool.{Bool, true, false, not}
use mathlib.Core.List.{List, [], ◌∷◌}
use native.Mathlib.Omega.{arith}
use borrow.Author.Tests.{leb-false, eqb-true, ne_eqb, not-true}
use lib.Dec.{eqb, leb}
use lib.ListN.{take, length-take}
use Rattle.laws.specs.Choice.{some}
use Rattle.laws.specs.Refusals.{accepted, no_card}
use Rattle.laws.specs.Cards.{dealt_to}
use Rattle.laws.specs.Law44.{cards_played, tricks_complete, cards_in_trick, leader, trick_under_way, to_play, is_played, holds, playable}
use Rattle.laws.specs.CardRefusal.{card_refusal}
use Rattle.laws.proofs.Tests.{by_test, or_left, or_right, and_left, and_right}
use Rattle.laws.proofs.CardRefusals.{accepted-playable}

-- ---- the cards of the trick
pub fewer_than_four : (g : List ℕ) → cards_in_trick g < 4
unfolding cards_in_trick cards_played
fewer_than_four g = omega arith

pub in_trick_more : (c : ℕ) (g : List ℕ) → cards_in_trick g < 3 → cards_in_trick (c ∷ g) ≡ suc (cards_in_trick g)
unfolding cards_in_trick cards_played
in_trick_more c g h = omega arith

pub in_trick_last : (c : ℕ) (g : List ℕ) → 3 ≤ cards_in_trick g → cards_in_trick (c ∷ g) ≡ 0
unfolding cards_in_trick cards_played
in_trick_last c g h = omega arith

pub tricks-same : (c : ℕ) (g : List ℕ) → cards_in_trick g < 3 → tricks_complete (c ∷ g) ≡ tricks_complete g
unfolding tricks_complete cards_in_trick cards_played
tricks-same c g h = omega arith

pub tricks-more : (c : ℕ) (g : List ℕ) → 3 ≤ cards_in_trick g → tricks_complete (c ∷ g) ≡ suc (tricks_complete g)
unfolding tricks_complete cards_in_trick cards_played
tricks-more c g h = omega arith

pub leader-same : (trump opening c : ℕ) (g : List ℕ) → cards_in_trick g < 3 → leader trump opening (c ∷ g) ≡ leader trump opening g
unfolding leader
leader-same trump opening c g h = rw (in_trick_more c g h, ne_eqb (suc (cards_in_trick g)) 0 (λ e. omega arith))

pub trick-more : (c : ℕ) (g : List ℕ) → cards_in_trick g < 3 → trick_under_way (c ∷ g) ≡ c ∷ trick_under_way g
unfolding trick_under_way
trick-more c g h = rw (in_trick_more c g h)

pub trick-last : (c : ℕ) (g : List ℕ) → 3 ≤ cards_in_trick g → trick_under_way (c ∷ g) ≡ []
unfolding trick_under_way
trick-last c g h = rw (in_trick_last c g h)

pub trick-size : (g : List ℕ) → cards_played (trick_under_way g) ≡ cards_in_trick g
unfolding trick_under_way cards_in_trick cards_played
trick-size g = simp length-take (omega arith)

-- ---- an allowed card
pub record Fair (trump opening : ℕ) (deal g : List ℕ) (card : ℕ) : Type 0 where
  pub code : card < 52
  pub held : dealt_to deal card ≡ to_play trump opening g
  pub unplayed : is_played g card ≡ false

pub fair : (trump opening : ℕ) (deal g : List ℕ) (card : ℕ) → card_refusal trump opening deal g card ≡ accepted → Fair trump opening deal g card
unfolding card_refusal playable holds
fair trump opening deal g card e =
    let r = accepted-playable trump opening deal g card e in
    let at_turn = eqb (dealt_to deal card) (to_play trump opening g) in
    record {
      code =
          by_test (leb 52 card)
          (λ (q : leb 52 card ≡ true). absurd (let z : ◌≡◌ {A = ℕ} no_card accepted = rw q at e in omega arith))
          (λ (q : leb 52 card ≡ false). leb-false 52 card q);
      held = eqb-true (dealt_to deal card) (to_play trump opening g) (and_left at_turn (not (is_played g card)) r);
      unplayed = not-true (is_played g card) (and_right at_turn (not (is_played g card)) r);
    }

none-taken : (test : ℕ → Bool) (n : ℕ) (l : List ℕ) → some test l ≡ false → some test (take n l) ≡ false
unfolding some
none-taken test zero l e = refl
none-taken test (suc n) [] e = refl
none-taken test (suc n) (c ∷ l) e = rw (or_left (test c) (some test l) e) (none-taken test n l (or_right (test c) (some test l) e))

-- what is not in the history is not in the trick under way
pub not_in_trick : (g : List ℕ) (card : ℕ) → is_played g card ≡ false → is_played (trick_under_way g) card ≡ false
unfolding trick_under_way is_played
not_in_trick g card e = none-taken (λ c. eqb c card) (cards_in_trick g) g e
