-- Laws 50D2 and 51B: declarer's choices before a defender leads whose partner has a major penalty card, on the events of the play, latest first.
-- Assumes nothing.
use Rattle.std.specs.Prelude.{ℕ, Bool, false, not, ◌&&◌, ◌||◌, List, [], ◌∷◌, eqb, leb, if◌then◌else◌}
use Rattle.laws.specs.Choice.{some_below}
use Rattle.laws.specs.Cards.{partner_of}
use Rattle.laws.specs.Law44.{cards_in_trick, is_of, leader}
use Rattle.laws.specs.Events.{Event, played, exposed, choice, require, forbid, cards_of}
use Rattle.laws.specs.Law50.{is_defender, leader_after, is_major_of}

-- what stands for a suit where there is none
abbrev pub no_suit : ℕ
no_suit = 4

-- the suit required of the next lead, no_suit where there is none: a requirement holds for one lead and ends with it
unfoldable pub required : List Event → ℕ
required [] = no_suit
required (played c ∷ e) = no_suit
required (exposed c deliberate ∷ e) = required e
required (choice kind suit ∷ e) = if eqb kind require then suit else required e

module _ (trump opening : ℕ) where
  -- the suit is forbidden to the leader: a ban lasts until a trick is won by any other seat
  unfoldable pub is_forbidden : List Event → ℕ → Bool
  is_forbidden [] s = false
  is_forbidden (played c ∷ e) s = is_forbidden e s && eqb (leader trump opening (c ∷ cards_of e)) (leader trump opening (cards_of e))
  is_forbidden (exposed c deliberate ∷ e) s = is_forbidden e s
  is_forbidden (choice kind suit ∷ e) s = is_forbidden e s || (eqb kind forbid && eqb suit s)

  -- some ban runs
  unfoldable pub ban_runs : List Event → Bool
  ban_runs e = some_below 4 (λ s. is_forbidden e s)

  -- a defender is to lead: no card of the trick has been played
  unfoldable pub defender_to_lead : List Event → Bool
  defender_to_lead e = eqb (cards_in_trick (cards_of e)) 0 && is_defender opening (leader_after trump opening e)

module _ (trump opening : ℕ) (deal : List ℕ) where
  -- the leader's partner has a major penalty card of the suit
  unfoldable pub partner_has_major : List Event → ℕ → Bool
  partner_has_major e suit = some_below 52 (λ k. is_of suit k && is_major_of trump opening deal e (partner_of (leader_after trump opening e)) k)

  -- the choice is open: to require or to forbid the suit before a defender leads whose partner has a major penalty card of it. One suit may be required if no
  -- ban runs; one or more may be forbidden; after a requirement there is no other choice for that lead
  unfoldable pub is_open : List Event → ℕ → ℕ → Bool
  is_open e kind suit =
      leb kind forbid
      && (defender_to_lead trump opening e && (partner_has_major e suit && (eqb (required e) no_suit && (eqb kind forbid || not (ban_runs trump opening e)))))
