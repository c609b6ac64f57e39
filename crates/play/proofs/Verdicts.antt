-- The verdict on a card, after every history that the verdicts allow, is the Law's. Assumes nothing.
use Rattle.std.specs.Prelude.{if◌then◌else◌}
use Prim.Native.Nat.{ℕ, ◌<◌}
use mathlib.Core.Path.{◌≡◌, refl}
use mathlib.Core.Bool.{Bool, true, false, not, ◌&&◌}
use mathlib.Core.List.{List, [], ◌∷◌}
use native.Mathlib.Omega.{arith}
use borrow.Author.Tests.{leb-false}
use lib.Dec.{eqb, leb}
use lib.ListN.{length}
use Rattle.laws.specs.Refusals.{accepted, card_not_held, card_already_played}
use Rattle.laws.specs.Cards.{no_seat, dealt_to}
use Rattle.laws.specs.Law44.{to_play, is_played, holds, has_played, playable}
use Rattle.laws.specs.CardRefusal.{card_refusal}
use Rattle.laws.proofs.Tests.{by_test}
use Rattle.laws.proofs.Histories.{Clean}
use Rattle.deal.proofs.Built.{at_seat}
use Rattle.deal.proofs.Words.{word_bit}
use Rattle.play.specs.declared.Play.{Play}
use Rattle.std.specs.Prelude.{Ok, Err}
use Rattle.laws.specs.Refused.{number_or_none}
use Rattle.laws.specs.declared.Refusal.TheVariants.{CardNotHeld, CardAlreadyPlayed}
use Rattle.play.specs.Position.{was_dealt, verdict_of, refusal_of}
use Rattle.play.specs.History.{position_of, AllPlayed}
use Rattle.play.proofs.Holders.{turn_seat, holds_law}
use Rattle.play.proofs.Stands.{Stands, stands, turn_is}

-- a history without a refused card
pub all-played : (deal : List ℕ) (trump opening : ℕ) (g : List ℕ) → Clean (card_refusal trump opening deal) g → AllPlayed deal trump opening g
unfolding Clean AllPlayed
all-played deal trump opening [] w = tt
all-played deal trump opening (c ∷ g) w = (w.0, all-played deal trump opening g w.1)

-- a card that the seat was dealt is in its hand or played
number-of : (own played : Bool)
    → number_or_none {A = Unit {0}} (if own && not played then Ok tt else if own then Err CardAlreadyPlayed else Err CardNotHeld)
    ≡ (if own && not played then accepted else if own && played then card_already_played else card_not_held)
number-of true true = refl
number-of true false = refl
number-of false played = refl

module _ (deal : List ℕ) (trump opening : ℕ) (all : length deal ≡ 52) where
  dealt-is : {p : Play} {g : List ℕ} → Stands deal trump opening all p g → (card : ℕ) → card < 52
      → was_dealt p card ≡ eqb (dealt_to deal card) (to_play trump opening g)
  unfolding was_dealt
  dealt-is {p} {g} s card h =
      let seat = to_play trump opening g in
      rw (turn_is deal trump opening all s, s.dealt, at_seat deal seat (turn_seat trump opening g)) (word_bit seat no_seat card deal (omega arith))

  pub verdict_law : (g : List ℕ) → AllPlayed deal trump opening g → (card : ℕ)
      → refusal_of (position_of deal trump opening g) card ≡ card_refusal trump opening deal g card
  unfolding verdict_of card_refusal playable holds has_played
  verdict_law g w card =
      let s = stands deal trump opening all g w in
      let seat = to_play trump opening g in
      by_test (leb 52 card)
      (λ (q : leb 52 card ≡ true). rw q)
      (λ (q : leb 52 card ≡ false).
      rw (
        q,
        dealt-is s card (leb-false 52 card q),
        turn_is deal trump opening all s,
        s.holders,
        holds_law deal trump opening all g w seat card (turn_seat trump opening g),
      )
      (number-of (eqb (dealt_to deal card) seat) (is_played g card)))
