-- A card is refused with no number exactly when it may be played; a number is one of a record's. Assumes nothing.
use Rattle.std.specs.Prelude.{if◌then◌else◌}
use Prim.Native.Nat.{ℕ, ◌<◌}
use native.Mathlib.Omega.{arith}
use mathlib.Core.Path.{◌≡◌, refl}
use mathlib.Core.Logic.{◌↔◌}
use mathlib.Core.Bool.{Bool, true, false, not}
use mathlib.Core.List.{List}
use borrow.Author.Tests.{leb-true, leb-false, lt-leb, eqb-true, eq-eqb, ne_eqb}
use lib.Dec.{leb, eqb}
use lib.ListN.{length, get_or-eq_default}
use Rattle.laws.specs.Refusals.{accepted, no_card, card_not_held, card_already_played, refuses_record}
use Rattle.laws.specs.Cards.{no_seat, clockwise, dealt_to}
use Rattle.laws.specs.Law44.{to_play, is_played, holds, has_played, playable}
use Rattle.laws.specs.CardRefusal.{card_refusal}
use Rattle.laws.proofs.Tests.{by_test, not_both, and_left}
use Rattle.laws.proofs.RecordNumbers.{not_none}

module _ (trump opening : ℕ) where
  -- whose turn it is, is a seat
  pub to_play_lt : (g : List ℕ) → to_play trump opening g < 4
  unfolding to_play clockwise
  to_play_lt g = omega arith

  module _ (deal g : List ℕ) (card : ℕ) where
    -- what may be played was dealt
    pub playable-dealt : playable trump opening deal g card ≡ true → card < length deal
    unfolding playable holds
    playable-dealt e =
        by_test (leb (length deal) card)
        (λ (q : leb (length deal) card ≡ true).
        let seat : ℕ = to_play trump opening g in
        let held : dealt_to deal card ≡ seat = eqb-true (dealt_to deal card) seat (and_left (eqb (dealt_to deal card) seat) (not (is_played g card)) e) in
        let nobody : dealt_to deal card ≡ no_seat = get_or-eq_default deal no_seat (leb-true (length deal) card q) in
        absurd (omega (arith, to_play_lt g)))
        (λ (q : leb (length deal) card ≡ false). leb-false (length deal) card q)

    playable-accepted : length deal ≡ 52 → playable trump opening deal g card ≡ true → card_refusal trump opening deal g card ≡ accepted
    unfolding card_refusal
    playable-accepted full e = rw (lt-leb 52 card (omega (arith, playable-dealt e)), e)

    -- what may not be played has one of three numbers, and so passes every test that they pass
    refused : (test : ℕ → Bool) → test no_card ≡ true → test card_not_held ≡ true → test card_already_played ≡ true
        → playable trump opening deal g card ≡ false → test (card_refusal trump opening deal g card) ≡ true
    unfolding card_refusal
    refused test t₁₁ t₁₂ t₂₃ e =
        let played = has_played deal g (to_play trump opening g) card in
        by_test (leb 52 card)
        (λ (q : leb 52 card ≡ true). rw q t₁₁)
        (λ (q : leb 52 card ≡ false). by_test played (λ (r : played ≡ true). rw (q, e, r) t₂₃) (λ (r : played ≡ false). rw (q, e, r) t₁₂))

    pub accepted-playable : card_refusal trump opening deal g card ≡ accepted → playable trump opening deal g card ≡ true
    accepted-playable e =
        by_test (playable trump opening deal g card)
        (λ (q : playable trump opening deal g card ≡ true). q)
        (λ (q : playable trump opening deal g card ≡ false). absurd (not_none (refused refuses_record refl refl refl q) e))

    pub accepted-is : length deal ≡ 52 → (card_refusal trump opening deal g card ≡ accepted) ↔ (playable trump opening deal g card ≡ true)
    accepted-is full = (accepted-playable, playable-accepted full)

    pub numbered_by : (test : ℕ → Bool) → test no_card ≡ true → test card_not_held ≡ true → test card_already_played ≡ true
        → not (eqb (card_refusal trump opening deal g card) accepted) ≡ true → test (card_refusal trump opening deal g card) ≡ true
    unfolding card_refusal
    numbered_by test t₁₁ t₁₂ t₂₃ e =
        by_test (leb 52 card)
        (λ (q : leb 52 card ≡ true). rw q t₁₁)
        (λ (q : leb 52 card ≡ false). by_test (playable trump opening deal g card)
        (λ (r : playable trump opening deal g card ≡ true). not_both false (rw (q, r) at e) refl)
        (λ (r : playable trump opening deal g card ≡ false). refused test t₁₁ t₁₂ t₂₃ r))

    -- a card that is refused has a number of a record
    pub numbered : not (eqb (card_refusal trump opening deal g card) accepted) ≡ true → refuses_record (card_refusal trump opening deal g card) ≡ true
    numbered = numbered_by refuses_record refl refl refl

    -- ---- which number
    module _ (low : card < 52) where
      abbrev seat : ℕ
      seat = to_play trump opening g

      -- by who was dealt the card, and whether it has been played
      number_by : (own played : Bool) → eqb (dealt_to deal card) seat ≡ own → is_played g card ≡ played
          → card_refusal trump opening deal g card ≡ (if own then (if played then card_already_played else accepted) else card_not_held)
      unfolding card_refusal playable holds has_played
      number_by true true a b = rw (lt-leb 52 card low, a, b)
      number_by true false a b = rw (lt-leb 52 card low, a, b)
      number_by false played a b = rw (lt-leb 52 card low, a)

      abbrev own : Bool
      own = eqb (dealt_to deal card) seat

      pub already_played : (card_refusal trump opening deal g card ≡ card_already_played) ↔ ((dealt_to deal card ≡ seat) × (is_played g card ≡ true))
      already_played = (
        λ e.
            by_test own
            (λ (a : own ≡ true). by_test (is_played g card)
            (λ (b : is_played g card ≡ true). (eqb-true (dealt_to deal card) seat a, b))
            (λ (b : is_played g card ≡ false). absurd (omega (arith, number_by true false a b))))
            (λ (a : own ≡ false). absurd (omega (arith, number_by false (is_played g card) a refl))),
        λ (a, b). number_by true true (eq-eqb (dealt_to deal card) seat a) b,
      )

      pub anothers_card : (card_refusal trump opening deal g card ≡ card_not_held) ↔ (dealt_to deal card ≡ seat → ⊥)
      anothers_card = (
        λ e a.
            let o = eq-eqb (dealt_to deal card) seat a in
            by_test (is_played g card)
            (λ (b : is_played g card ≡ true). absurd (omega (arith, number_by true true o b)))
            (λ (b : is_played g card ≡ false). absurd (omega (arith, number_by true false o b))),
        λ a. number_by false (is_played g card) (ne_eqb (dealt_to deal card) seat a) refl,
      )
