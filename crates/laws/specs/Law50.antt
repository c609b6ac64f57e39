-- Laws 48 to 50: penalty cards, on the events of the play, latest first. A defender's card that is exposed is faced: it stays on the table, a penalty card,
-- until it is played or picked up. `trump` is the contract's strain, `opening` the seat that leads to the first trick.
-- Assumes nothing.
use Rattle.std.specs.Prelude.{ℕ, ◌%◌, Bool, false, not, ◌&&◌, ◌||◌, List, [], ◌∷◌, eqb, leb, ltb, if◌then◌else◌}
use Rattle.laws.specs.Choice.{some_below}
use Rattle.laws.specs.Cards.{partner_of, same_side, dealt_to}
use Rattle.laws.specs.Law44.{is_of, leader, is_played}
use Rattle.laws.specs.Events.{Event, played, exposed, choice, cards_of}

-- a defender: the seat is of the side that makes the opening lead
abbrev pub is_defender : ℕ → ℕ → Bool
is_defender opening seat = ltb seat 4 && same_side seat opening

-- an honour: ace, king, queen, jack or ten
abbrev pub is_honour : ℕ → Bool
is_honour card = leb 8 (card % 13)

module _ (trump opening : ℕ) where
  -- who leads to the trick under way, or between tricks to the next
  abbrev pub leader_after : List Event → ℕ
  leader_after e = leader trump opening (cards_of e)

module _ (trump opening : ℕ) (deal : List ℕ) where
  -- 50D2a, 51B: a choice of a suit lets the leader's partner pick up the card: it is of that suit, and his
  unfoldable pub is_picked_up : List Event → ℕ → ℕ → Bool
  is_picked_up e suit k = is_of suit k && eqb (dealt_to deal k) (partner_of (leader_after trump opening e))

  -- the card is faced, a penalty card: it was exposed, and neither played nor picked up since
  unfoldable pub is_faced : List Event → ℕ → Bool
  is_faced [] k = false
  is_faced (played c ∷ e) k = is_faced e k && not (eqb c k)
  is_faced (exposed c deliberate ∷ e) k = eqb c k || is_faced e k
  is_faced (choice kind suit ∷ e) k = is_faced e k && not (is_picked_up e suit k)

  -- the card is a penalty card of the seat
  unfoldable pub is_faced_of : List Event → ℕ → ℕ → Bool
  is_faced_of e seat k = is_faced e k && eqb (dealt_to deal k) seat

  -- the seat has a penalty card
  unfoldable pub has_faced : List Event → ℕ → Bool
  has_faced e seat = some_below 52 (λ k. is_faced_of e seat k)

  -- 50B: a penalty card is major if it was exposed deliberately, is an honour, or its owner has another one at the same time; it stays major as long as it is
  -- faced
  unfoldable pub is_major : List Event → ℕ → Bool
  is_major [] k = false
  is_major (played c ∷ e) k = is_major e k && not (eqb c k)
  is_major (exposed c deliberate ∷ e) k =
      if eqb c k then deliberate || (is_honour c || has_faced e (dealt_to deal c))
      else (is_major e k || is_faced_of e (dealt_to deal c) k)
  is_major (choice kind suit ∷ e) k = is_major e k && not (is_picked_up e suit k)

  -- 50B: any other penalty card is minor: a single card below the ten that was exposed by accident
  unfoldable pub is_minor : List Event → ℕ → Bool
  is_minor e k = is_faced e k && not (is_major e k)

  -- the card is a major penalty card of the seat
  unfoldable pub is_major_of : List Event → ℕ → ℕ → Bool
  is_major_of e seat k = is_major e k && eqb (dealt_to deal k) seat

  -- 48, 49: the card can be exposed: it is in a defender's hand, and is not faced already
  unfoldable pub is_exposable : List Event → ℕ → Bool
  is_exposable e k = (is_defender opening (dealt_to deal k) && not (is_played (cards_of e) k)) && not (is_faced e k)
