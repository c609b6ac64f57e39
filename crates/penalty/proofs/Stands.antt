-- The penalty cards that the code keeps are the Laws' after every history of which no event is refused: each field, an event at a time.
-- Assumes nothing.
use Rattle.std.specs.Prelude.{Some, None}
use Prim.Native.Nat.{ℕ, ◌<◌}
use mathlib.Core.Path.{◌≡◌, refl, sym, ap, ◌∙◌}
use mathlib.Core.Bool.{Bool, true, false, not, ◌&&◌, ◌||◌}
use mathlib.Core.List.{List, []}
use lib.Dec.{eqb}
use Rattle.laws.specs.Choice.{some_below}
use Rattle.laws.specs.Cards.{suit_of, dealt_to}
use Rattle.laws.specs.Law44.{is_of, is_played, holds}
use Rattle.laws.specs.Events.{Event, cards_of, codes_of}
use Rattle.laws.specs.Law50.{is_honour, is_faced, is_faced_of, is_major, is_minor, is_major_of}
use Rattle.laws.specs.Law51.{no_suit, required, is_forbidden}
use Rattle.laws.specs.LeadRevoke.{leads, led_after, seat_after, is_asked, is_able, obeys, is_excused}
use Rattle.laws.specs.Failures.{is_own_minor, is_against_50c, is_due, is_against_50d1, is_failure}
use Rattle.laws.specs.Kept.{NoneRefused}
use Rattle.laws.proofs.Tests.{by_test}
use Rattle.laws.proofs.Counts.{some_same}
use Rattle.laws.proofs.LeadRevokes.{asked_led, asked-suit, asked_free}
use Rattle.laws.proofs.KeptCards.{faced_unplayed, major-faced}
use Rattle.play.proofs.Masks.{word_by, word_same, word_and}
use Rattle.penalty.specs.declared.Penalty.{Penalty}
use Rattle.penalty.specs.declared.Turn.{Turn}
use Rattle.penalty.specs.Position.{start_of, asked_of_lead, asked_by, asked_in, obeying_in, obeys_in, excused_in, against_50c, against_50d1, fails_in}
use Rattle.penalty.proofs.Tests.{eqb-sym, in_hand, own_faced, own_minor}
use Rattle.penalty.proofs.Sets.{word_without, word_free, word_card, word_suit, word_meets, word_has}

module _ (deal : List ℕ) (trump opening : ℕ) where
  -- the fields are what the Laws say after the events
  pub record Stands (p : Penalty) (e : List Event) : Type 0 where
    pub faced : p.faced ≡ word_by 52 (λ k. is_faced trump opening deal e k)
    pub major : p.major ≡ word_by 52 (λ k. is_major trump opening deal e k)
    pub forbidden : p.forbidden ≡ word_by 52 (λ k. is_forbidden trump opening e (suit_of k))
    pub requires : p.required ≡ required e
    pub codes : p.codes ≡ codes_of e

  pub starts : Stands start_of []
  unfolding start_of is_faced is_major is_forbidden required codes_of word_by
  starts = record { faced = refl; major = refl; forbidden = refl; requires = refl; codes = refl }

  -- what the seat at turn has before it plays
  pub record AtTurn (t : Turn) (e : List Event) : Type 0 where
    pub hand : t.hand ≡ word_by 52 (λ k. holds deal (cards_of e) (seat_after trump opening e) k)
    pub first : leads e ≡ true → t.led ≡ None
    pub led : leads e ≡ false → t.led ≡ Some (led_after e)

  abbrev held : List Event → ℕ → Bool
  held e k = holds deal (cards_of e) (seat_after trump opening e) k

  abbrev asked : List Event → ℕ → Bool
  asked e k = is_asked trump opening e k

  -- ---- what is asked of the card, and which cards obey
  module _ {p : Penalty} {t : Turn} {e : List Event} (s : Stands p e) (a : AtTurn t e) where
    asked_is : asked_in p t ≡ word_by 52 (asked e)
    unfolding asked_in asked_by asked_of_lead
    asked_is =
        by_test (leads e)
        (λ (q : leads e ≡ true). rw (a.first q, s.requires) (by_test (eqb (required e) no_suit)
        (λ (n : eqb (required e) no_suit ≡ true). rw (n, s.forbidden)
        (word_free (λ k. is_forbidden trump opening e (suit_of k)) ∙ word_same 52 _ (asked e) (λ k h. sym (asked_free trump opening e q n k))))
        (λ (n : eqb (required e) no_suit ≡ false). rw n
        (word_suit (required e) ∙ word_same 52 _ (asked e) (λ k h. sym (asked-suit trump opening e q n k))))))
        (λ (q : leads e ≡ false). rw (a.led q) (word_suit (led_after e) ∙ word_same 52 _ (asked e) (λ k h. sym (asked_led trump opening e q k))))

    obeying_is : obeying_in p t ≡ word_by 52 (λ k. held e k && obeys trump opening deal e k)
    unfolding obeying_in obeys is_able
    obeying_is =
        rw (asked_is, a.hand, word_meets (asked e) (held e)) (by_test (some_below 52 (λ k. asked e k && held e k))
        (λ (q : some_below 52 (λ k. asked e k && held e k) ≡ true).
        rw q (word_and 52 (asked e) (held e)
        ∙ word_same 52 (λ k. asked e k && held e k) (λ k. held e k && (asked e k || false)) (λ k h. able (asked e k) (held e k))))
        (λ (q : some_below 52 (λ k. asked e k && held e k) ≡ false).
        rw q (word_same 52 (held e) (λ k. held e k && (asked e k || true)) (λ k h. free (asked e k) (held e k)))))
      where
        able : (x y : Bool) → (x && y) ≡ (y && (x || false))
        able true true = refl
        able true false = refl
        able false true = refl
        able false false = refl

        free : (x y : Bool) → y ≡ (y && (x || true))
        free true true = refl
        free false true = refl
        free x false = refl

    -- the play of a card of the hand is no revoke
    pub obeys-is : (card : ℕ) → card < 52 → held e card ≡ true → obeys_in p t card ≡ obeys trump opening deal e card
    unfolding obeys_in
    obeys-is card h own = rw (obeying_is, word_has (λ k. held e k && obeys trump opening deal e k) card h, own)

    module _ (w : NoneRefused trump opening deal e) where
      -- a penalty card has not been played
      faced-left : (k : ℕ) → is_faced trump opening deal e k ≡ true → not (is_played (cards_of e) k) ≡ true
      faced-left k f = rw (faced_unplayed trump opening deal e w k f)

      major-left : (k : ℕ) → is_major trump opening deal e k ≡ true → not (is_played (cards_of e) k) ≡ true
      major-left k m = faced-left k (major-faced trump opening deal e k m)

      pub excused-is : excused_in p t ≡ is_excused trump opening deal e
      unfolding excused_in is_excused is_faced_of holds
      excused-is =
          rw (
            obeying_is,
            s.faced,
            a.hand,
            word_and 52 (is_faced trump opening deal e) (held e),
            word_meets (λ k. held e k && obeys trump opening deal e k) (λ k. is_faced trump opening deal e k && held e k),
          )
          (some_same 52 _ _ (λ k h. own_faced _ _ _ _ (faced-left k)))

      -- ---- plays against 50C and 50D1
      against_50c_is : (card : ℕ) → card < 52 → against_50c p t card ≡ is_against_50c trump opening deal e card
      unfolding against_50c is_against_50c is_own_minor is_minor holds
      against_50c_is card h =
          let minor : ℕ → Bool = λ (k : ℕ). is_faced trump opening deal e k && not (is_major trump opening deal e k) in
          rw (
            s.faced,
            s.major,
            a.hand,
            word_card card h,
            word_suit (suit_of card),
            word_without (λ k. is_faced trump opening deal e k) (λ k. is_major trump opening deal e k),
            word_and 52 minor (held e),
            word_without (λ k. minor k && held e k) (λ k. eqb card k),
            word_meets (λ k. (minor k && held e k) && not (eqb card k)) (λ k. is_of (suit_of card) k),
          )
          (ap (λ (x : Bool). not (is_honour card) && x) (some_same 52 _ _ (λ k q. rw (eqb-sym card k, eqb-sym (suit_of k) (suit_of card))
          (own_minor (is_faced trump opening deal e k) (is_major trump opening deal e k) _ _ _ _ (faced-left k)))))

      against_50d1_is : (card : ℕ) → card < 52 → against_50d1 p t card ≡ is_against_50d1 trump opening deal e card
      unfolding against_50d1 is_against_50d1 is_due is_major_of holds
      against_50d1_is card h =
          let free : ℕ → Bool = λ (k : ℕ). held e k && obeys trump opening deal e k in
          let major : ℕ → Bool = λ (k : ℕ). is_major trump opening deal e k in
          rw (
            obeying_is,
            s.major,
            word_and 52 free major,
            word_meets free major,
            word_has (λ k. free k && major k) card h,
            in_hand (eqb (dealt_to deal card) (seat_after trump opening e)) _ (obeys trump opening deal e card) (major card) (major-left card),
          )
          (ap (λ (x : Bool). x && not (is_due trump opening deal e card)) (some_same 52 _ _ (λ k q. in_hand _ _ _ _ (major-left k))))

      pub fails_is : (card : ℕ) → card < 52 → fails_in p t card ≡ is_failure trump opening deal e card
      unfolding fails_in is_failure
      fails_is card h = rw (against_50c_is card h, against_50d1_is card h)
