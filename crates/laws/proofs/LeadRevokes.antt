-- A play is a revoke exactly when a card of the suit led was held and another suit was played, or a lead choice was disobeyed when able. Assumes nothing.
use Prim.Native.Nat.{ℕ, ◌<◌}
use mathlib.Core.Path.{◌≡◌, refl}
use mathlib.Core.Logic.{◌↔◌, inl, inr, ⊎_elim}
use mathlib.Core.Bool.{Bool, true, false, not, ◌&&◌, ◌||◌}
use mathlib.Core.List.{List, map}
use borrow.Author.Tests.{eqb-true, eqb-false, eq-eqb, ne_eqb, not-true, not-false}
use lib.Dec.{eqb}
use Rattle.laws.specs.Choice.{some_below}
use Rattle.laws.specs.Cards.{suit_of}
use Rattle.laws.specs.Law44.{cards_in_trick, is_of, holds}
use Rattle.laws.specs.Law61.{holds_suit, is_revoke, RevokedAt}
use Rattle.laws.specs.Events.{Event, cards_of}
use Rattle.laws.specs.Law51.{no_suit, required, is_forbidden}
use Rattle.laws.specs.LeadRevoke.{leads, led_after, seat_after, is_asked, is_able, obeys, disobeys, listed_as, counted_by, counted_revokes, all_revokes}
use Rattle.laws.specs.LeadRevoke.{RequiredNotLed, ForbiddenLed, RevokedBy}
use Rattle.laws.proofs.Tests.{by_test, not_both, and_left, and_right, and_both}
use Rattle.laws.proofs.Counts.{below-some, some_below_lem}
use Rattle.laws.proofs.Revokes.{revoke-exactly}
use Rattle.laws.proofs.PlaysListed.{list-map}

-- neither asked nor free: the two tests of a play that is a revoke
refused_both : (a b : Bool) → not (a || not b) ≡ true → (a ≡ false) × (b ≡ true)
refused_both true b e = not_both false e refl
refused_both false true e = (refl, refl)
refused_both false false e = not_both false e refl

-- ---- what is asked, by the turn
module _ (trump opening : ℕ) (e : List Event) where
  pub asked_led : leads e ≡ false → (k : ℕ) → is_asked trump opening e k ≡ is_of (led_after e) k
  unfolding is_asked
  asked_led q k = rw q

  module _ (q : leads e ≡ true) where
    pub asked-suit : eqb (required e) no_suit ≡ false → (k : ℕ) → is_asked trump opening e k ≡ is_of (required e) k
    unfolding is_asked
    asked-suit n k = rw (q, n)

    pub asked_free : eqb (required e) no_suit ≡ true → (k : ℕ) → is_asked trump opening e k ≡ not (is_forbidden trump opening e (suit_of k))
    unfolding is_asked
    asked_free n k = rw (q, n)

module _ (trump opening : ℕ) (deal : List ℕ) where
  abbrev could : List Event → ℕ → Bool
  could e k = is_asked trump opening e k && holds deal (cards_of e) (seat_after trump opening e) k

  -- a card that follows is a revoke as Law 61 has it of the cards
  pub following : (e : List Event) (c : ℕ) → leads e ≡ false → disobeys trump opening deal e c ≡ is_revoke trump opening deal (cards_of e) c
  unfolding disobeys obeys is_able is_asked is_revoke holds_suit
  following e c q = rw q (turned (is_of (led_after e) c) _)
    where
      turned : (a b : Bool) → not (a || not b) ≡ (not a && b)
      turned true b = refl
      turned false true = refl
      turned false false = refl

  -- what a revoke tells: the card did not do what is asked, and here is one that would have
  record Told (e : List Event) (c : ℕ) : Type 0 where
    not-asked : is_asked trump opening e c ≡ false
    card : ℕ
    low : card < 52
    asked : is_asked trump opening e card ≡ true
    held : holds deal (cards_of e) (seat_after trump opening e) card ≡ true

  told : (e : List Event) (c : ℕ) → disobeys trump opening deal e c ≡ true → Told e c
  unfolding disobeys obeys is_able
  told e c d =
      let r = refused_both (is_asked trump opening e c) (some_below 52 (could e)) d in
      let k = below-some (could e) 52 r.1 in
      let held = holds deal (cards_of e) (seat_after trump opening e) k.0 in
      record {
        not-asked = r.0;
        card = k.0;
        low = k.1;
        asked = and_left (is_asked trump opening e k.0) held k.2;
        held = and_right (is_asked trump opening e k.0) held k.2;
      }

  is-told : (e : List Event) (c : ℕ) → Told e c → disobeys trump opening deal e c ≡ true
  unfolding disobeys obeys is_able
  is-told e c t =
      let able = some_below_lem (could e) 52 t.card t.low
      (and_both (is_asked trump opening e t.card) (holds deal (cards_of e) (seat_after trump opening e) t.card) t.asked t.held) in
      rw (t.not-asked, able)

  in_full : (e : List Event) (c : ℕ) → disobeys trump opening deal e c ≡ true → RevokedBy trump opening deal e c
  in_full e c d =
      by_test (leads e)
      (λ (q : leads e ≡ true).
      let t = told e c d in
      let lead = eqb-true (cards_in_trick (cards_of e)) 0 q in
      inr (by_test (eqb (required e) no_suit)
      (λ (n : eqb (required e) no_suit ≡ true).
      let free = asked_free trump opening e q n in
      inr (record {
        leads = lead;
        none_required = eqb-true (required e) no_suit n;
        forbidden = not-false (is_forbidden trump opening e (suit_of c)) (rw (free c) at t.not-asked);
        could = t.card;
        could_card = t.low;
        could_suit = not-true (is_forbidden trump opening e (suit_of t.card)) (rw (free t.card) at t.asked);
        could_held = t.held;
      }))
      (λ (n : eqb (required e) no_suit ≡ false).
      let suit = asked-suit trump opening e q n in
      inl (record {
        leads = lead;
        asked = eqb-false (required e) no_suit n;
        other = eqb-false (suit_of c) (required e) (rw (suit c) at t.not-asked);
        could = t.card;
        could_card = t.low;
        could_suit = eqb-true (suit_of t.card) (required e) (rw (suit t.card) at t.asked);
        could_held = t.held;
      }))))
      (λ (q : leads e ≡ false). inl ((revoke-exactly trump opening deal (cards_of e) c).0 (rw (following e c q) at d)))

  out_of : (e : List Event) (c : ℕ) → RevokedBy trump opening deal e c → disobeys trump opening deal e c ≡ true
  out_of e c =
      ⊎_elim
      (λ (r : RevokedAt trump opening deal (cards_of e) c).
      rw (following e c (ne_eqb (cards_in_trick (cards_of e)) 0 r.follows)) ((revoke-exactly trump opening deal (cards_of e) c).1 r))
      (⊎_elim
      (λ (r : RequiredNotLed trump opening deal e c).
      let suit = asked-suit trump opening e (eq-eqb (cards_in_trick (cards_of e)) 0 r.leads) (ne_eqb (required e) no_suit r.asked) in
      is-told e c (record {
        not-asked = rw (suit c) (ne_eqb (suit_of c) (required e) r.other);
        card = r.could;
        low = r.could_card;
        asked = rw (suit r.could) (eq-eqb (suit_of r.could) (required e) r.could_suit);
        held = r.could_held;
      }))
      (λ (r : ForbiddenLed trump opening deal e c).
      let free = asked_free trump opening e (eq-eqb (cards_in_trick (cards_of e)) 0 r.leads) (eq-eqb (required e) no_suit r.none_required) in
      is-told e c (record {
        not-asked = rw (free c, r.forbidden);
        card = r.could;
        low = r.could_card;
        asked = rw (free r.could, r.could_suit);
        held = r.could_held;
      })))

  -- the theorem: the test of a revoke is what demand 2 says of it
  pub disobeys-exactly : (e : List Event) (c : ℕ) → (disobeys trump opening deal e c ≡ true) ↔ RevokedBy trump opening deal e c
  disobeys-exactly e c = (in_full e c, out_of e c)

  -- what Law 64 counts is what is listed
  pub counted-listed : (e : List Event) → map listed_as (counted_revokes trump opening deal e) ≡ all_revokes trump opening deal e
  unfolding counted_revokes counted_by all_revokes
  counted-listed e = list-map listed_as (disobeys trump opening deal) (counted_by trump opening deal) e
