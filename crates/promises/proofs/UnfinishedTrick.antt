-- A revoke in the trick that a claim leaves unfinished, proved. Assumes nothing.
use Rattle.std.specs.Prelude.{if◌then◌else◌}
use Prim.Native.Nat.{ℕ, ◌+◌, ◌-◌, ◌≤◌, ◌<◌}
use native.Mathlib.Omega.{arith}
use mathlib.Core.Path.{◌≡◌, refl, ap, ◌∙◌}
use mathlib.Core.List.{List, [], ◌∷◌, ◌++◌}
use borrow.Author.Tests.{ne_eqb}
use lib.Dec.{eqb}
use lib.ListN.{length, get_or, drop, length-append, drop_of_length-le, get_or-eq_default}
use Rattle.laws.specs.Choice.{how_many}
use Rattle.laws.specs.Cards.{no_seat, side_of, partner_of}
use Rattle.laws.specs.Law44.{cards_played, tricks_complete, tricks_won}
use Rattle.laws.specs.Events.{Event, played, exposed, choice, cards_of}
use Rattle.laws.specs.LeadRevoke.{Counted, counted_by, revoke_by}
use Rattle.laws.specs.Law64.{is_exempt, entitlement, won_from}
use Rattle.laws.specs.Record.{Parts}
use Rattle.laws.specs.Judgement.{play_of, declarer_of, trump_of, opening_of, winners_of, claimed_of}
use Rattle.laws.proofs.CardRefusals.{to_play_lt}
use Rattle.play.proofs.Complete.{winners-count}
use Rattle.promises.specs.UnfinishedTrick.{InUnfinished, revoke_in, Unfinished, UnfinishedTrick}

-- the cards of events, one part after the other
pub cards_append : (a b : List Event) → cards_of (a ++ b) ≡ cards_of a ++ cards_of b
unfolding cards_of
cards_append [] b = refl
cards_append (played c ∷ a) b = ap (λ (l : List ℕ). c ∷ l) (cards_append a b)
cards_append (exposed c deliberate ∷ a) b = cards_append a b
cards_append (choice kind suit ∷ a) b = cards_append a b

module _ (p : Parts) (earlier : List Event) (card : ℕ) (u : InUnfinished p earlier card) where
  abbrev r : Counted
  r = revoke_in p earlier card

  -- the card is one of those that were played
  before : length (cards_of earlier) < length (cards_of (play_of p))
  unfolding cards_of
  before =
      rw (u.play, cards_append u.later (played card ∷ earlier))
      (omega (arith, length-append (cards_of u.later) (card ∷ cards_of earlier)))

  trick : (revoke_in p earlier card).trick ≡ tricks_complete (cards_of (play_of p)) + 1
  unfolding counted_by revoke_by tricks_complete cards_played
  trick = omega (arith, before, u.late)

  -- that trick has no winner
  many : length (winners_of p) ≡ (revoke_in p earlier card).trick - 1
  unfolding winners_of
  many = winners-count (trump_of p) (opening_of p) (cards_of (play_of p)) ∙ omega (arith, trick)

  seat_lt : (revoke_in p earlier card).seat < 4
  unfolding counted_by revoke_by
  seat_lt = to_play_lt (trump_of p) (opening_of p) (cards_of earlier)

  no_winner : get_or (winners_of p) ((revoke_in p earlier card).trick - 1) no_seat ≡ no_seat
  no_winner = get_or-eq_default (winners_of p) no_seat (omega (arith, many))

  entitled : (others : List Counted) → entitlement (partner_of (declarer_of p)) (winners_of p) others (revoke_in p earlier card)
      ≡ (if is_exempt (partner_of (declarer_of p)) others (revoke_in p earlier card) then 0 else 1)
  unfolding entitlement
  entitled others = rw (no_winner, ne_eqb no_seat (revoke_in p earlier card).seat (λ e. omega (arith, seat_lt)))

  available : won_from (winners_of p) (claimed_of p) (side_of (revoke_in p earlier card).seat) (revoke_in p earlier card).trick
      ≡ claimed_of p (side_of (revoke_in p earlier card).seat)
  unfolding won_from tricks_won how_many
  available =
      let all : length (winners_of p) ≤ (revoke_in p earlier card).trick - 1 = omega (arith, many) in
      rw (drop_of_length-le (winners_of p) all) (omega arith)

pub unfinished-trick : UnfinishedTrick
unfinished-trick p earlier card u =
    record { trick = trick p earlier card u; entitled = entitled p earlier card u; available = available p earlier card u }
