-- A revoke in the trick that a claim leaves unfinished: it is listed under that trick, Law 64 entitles to one trick for it, or to none, and never to two, and
-- of the tricks of its side the claimed ones count from it on.
-- Assumes nothing.
use Rattle.std.specs.Prelude.{ℕ, ◌+◌, ◌*◌, ◌≤◌, ◌≡◌, List, ◌∷◌, ◌++◌, length, if◌then◌else◌}
use Rattle.laws.specs.Cards.{partner_of, side_of}
use Rattle.laws.specs.Law44.{tricks_complete}
use Rattle.laws.specs.Events.{Event, played, cards_of}
use Rattle.laws.specs.LeadRevoke.{Counted, counted_by}
use Rattle.laws.specs.Law64.{is_exempt, entitlement, won_from}
use Rattle.laws.specs.Record.{Parts}
use Rattle.laws.specs.Judgement.{play_of, declarer_of, trump_of, opening_of, winners_of, claimed_of}

-- a card was played, after the events of `earlier`, to the trick that is not complete
pub record InUnfinished (p : Parts) (earlier : List Event) (card : ℕ) : Type 0 where
  pub later : List Event
  pub play : play_of p ≡ later ++ (played card ∷ earlier)
  pub late : 4 * tricks_complete (cards_of (play_of p)) ≤ length (cards_of earlier)

-- the revoke by the card, as Law 64 counts it where that card is one
abbrev pub revoke_in : Parts → List Event → ℕ → Counted
revoke_in p earlier card = counted_by (trump_of p) (opening_of p) p.deal earlier card

pub record Unfinished (p : Parts) (earlier : List Event) (card : ℕ) : Type 0 where
  -- under the trick after the last complete one
  pub trick : (revoke_in p earlier card).trick ≡ tricks_complete (cards_of (play_of p)) + 1
  -- one trick; none where the revoke is exempt: dummy's, on trick 12, in a suit that the seat revoked in before, or excused
  pub entitled : (before : List Counted) → entitlement (partner_of (declarer_of p)) (winners_of p) before (revoke_in p earlier card)
      ≡ (if is_exempt (partner_of (declarer_of p)) before (revoke_in p earlier card) then 0 else 1)
  -- from it on, what the side gets by the claim
  pub available : won_from (winners_of p) (claimed_of p) (side_of (revoke_in p earlier card).seat) (revoke_in p earlier card).trick
      ≡ claimed_of p (side_of (revoke_in p earlier card).seat)

-- for every contents and every card of the unfinished trick
abbrev pub UnfinishedTrick : Type 0
UnfinishedTrick = (p : Parts) (earlier : List Event) (card : ℕ) → InUnfinished p earlier card → Unfinished p earlier card
