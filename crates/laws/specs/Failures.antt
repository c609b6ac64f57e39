-- Plays against Law 50C or 50D1, on the events of the play, latest first. Such a play stands, and is in itself no revoke.
-- Assumes nothing.
use Rattle.std.specs.Prelude.{ℕ, ◌+◌, ◌*◌, ◌/◌, ◌%◌, ◌<◌, ◌≡◌, Bool, true, false, not, ◌&&◌, ◌||◌, List, [], ◌∷◌, ◌++◌, eqb}
use Rattle.laws.specs.Choice.{some_below}
use Rattle.laws.specs.Cards.{suit_of, dealt_to}
use Rattle.laws.specs.Law44.{tricks_complete, is_of, to_play}
use Rattle.laws.specs.Events.{Event, cards_of, list_plays}
use Rattle.laws.specs.Law50.{is_honour, is_minor, is_major_of}
use Rattle.laws.specs.LeadRevoke.{seat_after, obeys}

module _ (trump opening : ℕ) (deal : List ℕ) where
  -- the card is a minor penalty card of the seat at turn
  unfoldable pub is_own_minor : List Event → ℕ → Bool
  is_own_minor e k = is_minor trump opening deal e k && eqb (dealt_to deal k) (seat_after trump opening e)

  -- 50C: another card of the minor penalty card's suit below an honour may not be played before it
  unfoldable pub is_against_50c : List Event → ℕ → Bool
  is_against_50c e c = not (is_honour c) && some_below 52 (λ m. is_own_minor e m && (not (eqb m c) && is_of (suit_of m) c))

  -- 50D1: the card is due: a major penalty card of the seat at turn that is no revoke
  unfoldable pub is_due : List Event → ℕ → Bool
  is_due e k = is_major_of trump opening deal e (seat_after trump opening e) k && obeys trump opening deal e k

  -- 50D1: a major penalty card has to be played at the first chance; where several are due, any of them will do
  unfoldable pub is_against_50d1 : List Event → ℕ → Bool
  is_against_50d1 e c = some_below 52 (λ k. is_due e k) && not (is_due e c)

  -- the play of the card is against 50C or 50D1
  unfoldable pub is_failure : List Event → ℕ → Bool
  is_failure e c = is_against_50c e c || is_against_50d1 e c

-- a play against 50C or 50D1 as it is listed: its trick, 1 to 13, the seat, and the card played
pub record Failure : Type 0 where
  pub trick : ℕ
  pub seat : ℕ
  pub card : ℕ

module _ (trump opening : ℕ) where
  -- the play of the card as it is listed
  unfoldable pub failure_by : List Event → ℕ → Failure
  failure_by e c = record { trick = tricks_complete (cards_of e) + 1; seat = seat_after trump opening e; card = c }

module _ (trump opening : ℕ) (deal : List ℕ) where
  -- the plays against 50C or 50D1, in order of play
  unfoldable pub failures : List Event → List Failure
  failures e = list_plays (is_failure trump opening deal) (failure_by trump opening) e

-- a play against 50C or 50D1 as two bytes, the most significant first: trick 4 bits, seat 2, card 6, four zeros
unfoldable pub failure_pair : Failure → List ℕ
failure_pair f = (f.trick * 4096 + f.seat * 1024 + f.card * 16) / 256 ∷ (f.trick * 4096 + f.seat * 1024 + f.card * 16) % 256 ∷ []

-- the bytes of a list of them
unfoldable pub failure_bytes : List Failure → List ℕ
failure_bytes [] = []
failure_bytes (f ∷ fs) = failure_pair f ++ failure_bytes fs

-- ---- the same in full
-- the seat at turn has a minor penalty card, and plays another card of its suit that is no honour
pub record Against50C (trump opening : ℕ) (deal : List ℕ) (e : List Event) (c : ℕ) : Type 0 where
  pub low : is_honour c ≡ false
  pub minor : ℕ
  pub minor_card : minor < 52
  pub minor_faced : is_minor trump opening deal e minor ≡ true
  pub minor_own : dealt_to deal minor ≡ to_play trump opening (cards_of e)
  pub other : minor ≡ c → ⊥
  pub same_suit : suit_of c ≡ suit_of minor

-- the card is a major penalty card of the seat at turn, and its play is no revoke
pub record DueAt (trump opening : ℕ) (deal : List ℕ) (e : List Event) (k : ℕ) : Type 0 where
  pub major : is_major_of trump opening deal e (to_play trump opening (cards_of e)) k ≡ true
  pub no_revoke : obeys trump opening deal e k ≡ true

-- a card was due, and the card played was not
pub record Against50D1 (trump opening : ℕ) (deal : List ℕ) (e : List Event) (c : ℕ) : Type 0 where
  pub due : ℕ
  pub due_card : due < 52
  pub due_at_lem : DueAt trump opening deal e due
  pub other : DueAt trump opening deal e c → ⊥
