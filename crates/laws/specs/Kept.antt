-- What each step of the play keeps true of the penalty cards and of the lead choices, on the events of the play, latest first.
-- Assumes nothing.
use Rattle.std.specs.Prelude.{ℕ, ◌<◌, ◌≡◌, ◌↔◌, Bool, true, false, List, [], ◌∷◌, ◌++◌, eqb}
use Rattle.laws.specs.Refusals.{accepted}
use Rattle.laws.specs.Cards.{dealt_to}
use Rattle.laws.specs.Law44.{cards_in_trick, holds}
use Rattle.laws.specs.Events.{Event, played, exposed, choice, cards_of}
use Rattle.laws.specs.Law50.{is_defender, leader_after, is_picked_up, is_faced, is_major, is_minor}
use Rattle.laws.specs.Law51.{no_suit, required, is_forbidden}
use Rattle.laws.specs.CodeRefusal.{event_refusal}

module _ (trump opening : ℕ) (deal : List ℕ) where
  -- no event of the history is refused after those before it
  unfoldable pub NoneRefused : List Event → Type 0
  NoneRefused [] = Unit {0}
  NoneRefused (v ∷ e) = (event_refusal trump opening deal e v ≡ accepted) × NoneRefused e

  -- the event, after those of e, is one of the card: it is played, exposed or picked up
  unfoldable pub is_of_card : List Event → Event → ℕ → Bool
  is_of_card e (played c) k = eqb c k
  is_of_card e (exposed c deliberate) k = eqb c k
  is_of_card e (choice kind suit) k = is_picked_up trump opening deal e suit k

  -- no event of `after`, which came after those of e, is one of the card
  unfoldable pub NoneOfCard : List Event → List Event → ℕ → Type 0
  NoneOfCard [] e k = Unit {0}
  NoneOfCard (v ∷ after) e k = (is_of_card (after ++ e) v k ≡ false) × NoneOfCard after e k

  -- the latest event of the card is an exposure
  pub record LatestExposed (e : List Event) (k : ℕ) : Type 0 where
    pub after : List Event
    pub deliberate : Bool
    pub before : List Event
    pub parts : e ≡ after ++ (exposed k deliberate ∷ before)
    pub latest : NoneOfCard after (exposed k deliberate ∷ before) k

  -- what holds of the penalty cards
  pub record KeptCards (e : List Event) : Type 0 where
    -- a card is a penalty card exactly when its latest event is an exposure: it was neither played nor picked up since, and was faced once
    pub exactly : (k : ℕ) → (is_faced trump opening deal e k ≡ true) ↔ LatestExposed e k
    -- it was dealt to a defender, who holds it
    pub defenders : (k : ℕ) → is_faced trump opening deal e k ≡ true → is_defender opening (dealt_to deal k) ≡ true
    pub held : (k : ℕ) → is_faced trump opening deal e k ≡ true → holds deal (cards_of e) (dealt_to deal k) k ≡ true
    -- a major penalty card is a penalty card, and a minor one is alone at its owner
    pub major : (k : ℕ) → is_major trump opening deal e k ≡ true → is_faced trump opening deal e k ≡ true
    pub alone : (k j : ℕ) → is_minor trump opening deal e k ≡ true → is_faced trump opening deal e j ≡ true → dealt_to deal j ≡ dealt_to deal k → j ≡ k

  -- what holds of the lead choices
  pub record KeptChoices (e : List Event) : Type 0 where
    -- a suit is required only of a defender, before he leads; a ban runs only while a defender is the leader; both are of one of the four suits
    pub required_lead : (required e ≡ no_suit → ⊥) → (cards_in_trick (cards_of e) ≡ 0) × (is_defender opening (leader_after trump opening e) ≡ true)
    pub required_suit : (required e ≡ no_suit → ⊥) → required e < 4
    pub forbidden_lead : (s : ℕ) → is_forbidden trump opening e s ≡ true → is_defender opening (leader_after trump opening e) ≡ true
    pub forbidden_suit : (s : ℕ) → is_forbidden trump opening e s ≡ true → s < 4
    -- never both
    pub one_kind : (required e ≡ no_suit → ⊥) → (s : ℕ) → is_forbidden trump opening e s ≡ false
