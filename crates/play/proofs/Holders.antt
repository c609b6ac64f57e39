-- The places of the cards after a history that the verdicts allow: who holds what, by the history alone. Assumes nothing.
use Prim.Native.Nat.{ℕ, ◌<◌, ◌+◌}
use mathlib.Core.Path.{◌≡◌, refl, sym, ◌∙◌}
use mathlib.Core.Bool.{Bool, true, false, ◌&&◌}
use mathlib.Core.List.{List, [], ◌∷◌}
use native.Mathlib.Omega.{arith}
use borrow.Author.Tests.{eqb-true, eqb-false, ne_eqb, eq-eqb}
use lib.Dec.{eqb}
use lib.ListN.{length, length-set}
use lib.Seq.{get_or-set_same, get_or-set_other}
use Rattle.laws.specs.Choice.{some}
use Rattle.laws.specs.Cards.{no_seat, clockwise, dealt_to}
use Rattle.laws.specs.Law44.{is_of, to_play, is_played, holds}
use Rattle.laws.specs.Law61.{holds_suit}
use Rattle.laws.proofs.Tests.{by_test}
use Rattle.laws.proofs.Counts.{some_same}
use Rattle.deal.specs.Hands.{holds_one}
use Rattle.play.specs.History.{AllPlayed, holders_of}
use Rattle.play.proofs.Cards.{Fair, fair}

pub turn_seat : (trump opening : ℕ) (g : List ℕ) → to_play trump opening g < 4
unfolding to_play clockwise
turn_seat trump opening g = omega arith

and-true : (b : Bool) → (b && true) ≡ b
and-true true = refl
and-true false = refl

and-false : (b : Bool) → (b && false) ≡ false
and-false true = refl
and-false false = refl

module _ (deal : List ℕ) (trump opening : ℕ) (all : length deal ≡ 52) where
  abbrev at : List ℕ → List ℕ
  at g = holders_of deal trump opening g

  pub holders_52 : (g : List ℕ) → length (at g) ≡ 52
  unfolding holders_of
  holders_52 [] = all
  holders_52 (c ∷ g) = length-set (at g) c _ ∙ holders_52 g

  -- a seat's number stands at a card's place exactly when the seat holds the card
  pub holds_law : (g : List ℕ) → AllPlayed deal trump opening g → (seat card : ℕ) → seat < 4 → eqb (dealt_to (at g) card) seat ≡ holds deal g seat card
  unfolding holders_of AllPlayed holds is_played some
  holds_law [] w seat card h = sym (and-true (eqb (dealt_to deal card) seat))
  holds_law (c ∷ g) w seat card h =
      let f = fair trump opening deal g c w.0 in
      by_test (eqb c card)
      (λ (q : eqb c card ≡ true).
      rw (
        q,
        ← eqb-true c card q,
        get_or-set_same (at g) c (4 + to_play trump opening g) no_seat (omega (arith, f.code, holders_52 g)),
        ne_eqb
            (4 + to_play trump opening g) seat (λ e. omega arith),
      )
      (sym (and-false (eqb (dealt_to deal c) seat))))
      (λ (q : eqb c card ≡ false).
      rw (q, get_or-set_other (at g) c card (4 + to_play trump opening g) no_seat (λ e. eqb-false c card q (sym e))) (holds_law g w.1 seat card h))

  -- the card of an allowed play stood at its place with the seat at turn
  pub stood : (c : ℕ) (g : List ℕ) → Fair trump opening deal g c → AllPlayed deal trump opening g → dealt_to (at g) c ≡ to_play trump opening g
  unfolding holds
  stood c g f w =
      let seat = to_play trump opening g in
      let yes : holds deal g seat c ≡ true = rw (eq-eqb (dealt_to deal c) seat f.held, f.unplayed) in
      eqb-true (dealt_to (at g) c) seat (holds_law g w seat c (turn_seat trump opening g) ∙ yes)

  -- a seat that has a place of a suit holds a card of it
  pub suit_law : (g : List ℕ) → AllPlayed deal trump opening g → (seat suit : ℕ) → seat < 4 → holds_one (at g) seat suit ≡ holds_suit deal g seat suit
  unfolding holds_one holds_suit
  suit_law g w seat suit h =
      some_same 52 (λ k. is_of suit k && eqb (dealt_to (at g) k) seat) (λ k. is_of suit k && holds deal g seat k) (λ k b. rw (holds_law g w seat k h))
