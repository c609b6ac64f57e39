-- Law 61 with lead choices: a revoke is a play that does not do what is asked, by a seat that could, just before (Laws 44C, 51B, 59 and 61A). What is
-- asked is the suit led; of a lead, the suit required, or a suit that is not forbidden. On the events of the play, latest first.
-- Assumes nothing.
use Rattle.std.specs.Prelude.{ℕ, ◌+◌, ◌<◌, ◌≡◌, ◌⊎◌, Bool, true, false, not, ◌&&◌, ◌||◌, List, eqb, if◌then◌else◌}
use Rattle.laws.specs.Choice.{some_below}
use Rattle.laws.specs.Cards.{suit_of}
use Rattle.laws.specs.Law44.{tricks_complete, cards_in_trick, trick_under_way, suit_led, is_of, to_play, holds}
use Rattle.laws.specs.Law61.{RevokedAt, Revoke}
use Rattle.laws.specs.Events.{Event, cards_of, list_plays}
use Rattle.laws.specs.Law50.{is_faced_of}
use Rattle.laws.specs.Law51.{no_suit, required, is_forbidden}

-- the next card is the first of its trick
abbrev pub leads : List Event → Bool
leads e = eqb (cards_in_trick (cards_of e)) 0

-- the suit led to the trick under way
abbrev pub led_after : List Event → ℕ
led_after e = suit_led (trick_under_way (cards_of e))

module _ (trump opening : ℕ) where
  -- whose turn it is to play
  abbrev pub seat_after : List Event → ℕ
  seat_after e = to_play trump opening (cards_of e)

  -- the card does what is asked: it is of the suit led; as a lead, it is of the suit required, or, where none is required, not of a forbidden suit
  unfoldable pub is_asked : List Event → ℕ → Bool
  is_asked e k =
      if leads e then (if eqb (required e) no_suit then not (is_forbidden trump opening e (suit_of k)) else is_of (required e) k)
      else is_of (led_after e) k

module _ (trump opening : ℕ) (deal : List ℕ) where
  -- the seat at turn holds a card that does what is asked
  unfoldable pub is_able : List Event → Bool
  is_able e = some_below 52 (λ k. is_asked trump opening e k && holds deal (cards_of e) (seat_after trump opening e) k)

  -- the play of the card is no revoke: it does what is asked, or the seat at turn is not able to
  unfoldable pub obeys : List Event → ℕ → Bool
  obeys e c = is_asked trump opening e c || not (is_able e)

  -- the play of the card is a revoke
  unfoldable pub disobeys : List Event → ℕ → Bool
  disobeys e c = not (obeys e c)

  -- 64B3: the seat at turn has a penalty card, minor or major, whose play would be no revoke
  unfoldable pub is_excused : List Event → Bool
  is_excused e = some_below 52 (λ k. is_faced_of trump opening deal e (seat_after trump opening e) k && obeys e k)

-- the suit that a revoke is listed with: the suit led; of a lead, the suit required, or the forbidden suit that was led
unfoldable pub listed_suit : List Event → ℕ → ℕ
listed_suit e c = if leads e then (if eqb (required e) no_suit then suit_of c else required e) else led_after e

module _ (trump opening : ℕ) where
  -- the revoke by the card, as it is listed
  unfoldable pub revoke_by : List Event → ℕ → Revoke
  revoke_by e c = record { trick = tricks_complete (cards_of e) + 1; seat = seat_after trump opening e; suit = listed_suit e c }

-- a revoke as Law 64 counts it: as it is listed, and whether 64B3 excuses it
pub record Counted : Type 0 where
  pub trick : ℕ
  pub seat : ℕ
  pub suit : ℕ
  pub excused : Bool

-- the same as it is listed
abbrev pub listed_as : Counted → Revoke
listed_as r = record { trick = r.trick; seat = r.seat; suit = r.suit }

-- a revoke that is listed, and whether it is excused
abbrev pub counted : Revoke → Bool → Counted
counted r excused = record { trick = r.trick; seat = r.seat; suit = r.suit; excused = excused }

module _ (trump opening : ℕ) (deal : List ℕ) where
  -- the revokes as they are listed, in order of play
  unfoldable pub all_revokes : List Event → List Revoke
  all_revokes e = list_plays (disobeys trump opening deal) (revoke_by trump opening) e

  -- the revoke by the card, as Law 64 counts it
  unfoldable pub counted_by : List Event → ℕ → Counted
  counted_by e c = counted (revoke_by trump opening e c) (is_excused trump opening deal e)

  -- the revokes as Law 64 counts them, in order of play
  unfoldable pub counted_revokes : List Event → List Counted
  counted_revokes e = list_plays (disobeys trump opening deal) counted_by e

-- ---- the same in full
-- the card is a lead of another suit than the one required, by a seat that held a card of that suit
pub record RequiredNotLed (trump opening : ℕ) (deal : List ℕ) (e : List Event) (c : ℕ) : Type 0 where
  pub leads : cards_in_trick (cards_of e) ≡ 0
  pub asked : required e ≡ no_suit → ⊥
  pub other : suit_of c ≡ required e → ⊥
  pub could : ℕ
  pub could_card : could < 52
  pub could_suit : suit_of could ≡ required e
  pub could_held : holds deal (cards_of e) (to_play trump opening (cards_of e)) could ≡ true

-- the card is a lead of a forbidden suit, by a seat that held a card of a suit that was not forbidden
pub record ForbiddenLed (trump opening : ℕ) (deal : List ℕ) (e : List Event) (c : ℕ) : Type 0 where
  pub leads : cards_in_trick (cards_of e) ≡ 0
  pub none_required : required e ≡ no_suit
  pub forbidden : is_forbidden trump opening e (suit_of c) ≡ true
  pub could : ℕ
  pub could_card : could < 52
  pub could_suit : is_forbidden trump opening e (suit_of could) ≡ false
  pub could_held : holds deal (cards_of e) (to_play trump opening (cards_of e)) could ≡ true

-- a revoke: a card of the suit led was held and another suit was played, or a lead choice was disobeyed when able
abbrev pub RevokedBy : ℕ → ℕ → List ℕ → List Event → ℕ → Type 0
RevokedBy trump opening deal e c =
    RevokedAt trump opening deal (cards_of e) c ⊎ (RequiredNotLed trump opening deal e c ⊎ ForbiddenLed trump opening deal e c)
