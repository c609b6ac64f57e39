-- The longest auction and the longest record: the bounds, and the ones that reach them, by evaluating the judge's definitions. Assumes nothing.
use native.Mathlib.Omega.{arith}
use mathlib.Core.Path.{◌≡◌, refl}
use Rattle.laws.specs.Choice
use Rattle.laws.specs.Cards
use Rattle.laws.specs.Law2
use Rattle.laws.specs.Auction
use Rattle.laws.specs.CallRefusal
use Rattle.laws.specs.Law44
use Rattle.laws.specs.CardRefusal
use Rattle.laws.specs.Events
use Rattle.laws.specs.Law68
use Rattle.laws.specs.Record
use Rattle.laws.specs.Reading
use Rattle.laws.specs.Plays
use Rattle.laws.specs.Judge
use Rattle.laws.specs.Lengths
use lib.ListN.{length}
use Rattle.laws.specs.Record.{encode}
use Rattle.laws.specs.Judge.{Outcome.accepted, least_rooms, judge_of}
use Rattle.laws.proofs.LongestAuction.{at_most_319, at_most_319_in_order, longest_allowed, longest_unmarked, longest_over, longest_length}
use Rattle.laws.proofs.Lengths.{at_most_296, at_most_361, at_most_440, at_most_505}
use Rattle.promises.specs.Lengths.{ranks_in_turn, longest_parts, one_club_again, marked_parts, Lengths}
use Rattle.promises.proofs.Demand2Accepts.{accepted-lawful, by_judging}

-- both records are accepted
judged : (judge_of (encode longest_parts) least_rooms ≡ accepted longest_parts) × (judge_of (encode marked_parts) least_rooms ≡ accepted marked_parts)
unfolding
    Choice.how_many Choice.some Cards.clockwise Cards.cards_dealt Cards.first_without_thirteen Law2.dealer
    Auction.strain_of Auction.codes_before Auction.calls_made Auction.is_marked Auction.to_call Auction.last_bid Auction.last_bidder Auction.before_passes
    Auction.bid_by_opponents Auction.bid_by_own_side Auction.doubled_own_bid Auction.sufficient Auction.at_or_below Auction.may_double Auction.may_redouble
    Auction.passes_in_a_row Auction.has_bid Auction.is_over Auction.passed_out Auction.allowed
    Auction.bids_strain Auction.first_to_bid Auction.declarer Auction.trump_after Auction.opening_after CallRefusal.call_refusal
    CallRefusal.place_of CallRefusal.call_place
    Law44.cards_played Law44.all_played Law44.tricks_complete Law44.tricks_left Law44.cards_in_trick Law44.trick_under_way
    Law44.suit_led Law44.highest Law44.winning_card Law44.player_of Law44.winner Law44.leader Law44.to_play
    Law44.is_played Law44.holds Law44.playable CardRefusal.card_refusal Law68.at_claim_point Law68.claimable
    Events.cards_of Events.cards_among Events.as_events
    Record.row Record.event_fields Record.play_fields Record.claim_fields Record.layout
    Record.bits Record.padding Record.padded Record.number Record.bytes_of Record.packed Record.encode
    Reading.bit_at Reading.number_at Reading.read Reading.refuse Reading.read_row Reading.read_each Reading.overfull Reading.ending Plays.read_plays
    Judge.read_heading Judge.read_deal Judge.read_calls Judge.read_cards Judge.read_no_claim Judge.read_marked_claim Judge.read_claim
    Judge.read_record Judge.read_lent Judge.judge_of
    Lengths.bids_in_turn Lengths.longest_auction ranks_in_turn longest_parts one_club_again marked_parts
judged = (refl, refl)

bytes_296 : length (encode longest_parts) ≡ 296
unfolding
    Events.cards_of Events.cards_among Events.as_events
    Record.row Record.event_fields Record.play_fields Record.claim_fields Record.layout
    Record.bits Record.padding Record.padded Record.number Record.bytes_of Record.packed Record.encode
    Lengths.bids_in_turn Lengths.longest_auction ranks_in_turn longest_parts
bytes_296 = refl

codes_511 : length marked_parts.calls ≡ 511
unfolding one_club_again marked_parts
codes_511 = refl

bytes_440 : length (encode marked_parts) ≡ 440
unfolding
    Events.cards_of Events.cards_among Events.as_events
    Record.row Record.event_fields Record.play_fields Record.claim_fields Record.layout
    Record.bits Record.padding Record.padded Record.number Record.bytes_of Record.packed Record.encode
    ranks_in_turn one_club_again marked_parts
bytes_440 = refl

pub lengths : Lengths
lengths =
    record {
      most_calls = λ dealer h a n. omega (arith, at_most_319 dealer h a n);
      most_calls_in_order = at_most_319_in_order;
      longest_auction_lem = longest_allowed;
      longest_unmarked = longest_unmarked;
      longest_over = longest_over;
      longest_calls = longest_length;
      most_bytes_unmarked = λ bytes small rooms p q n alone.
          let w = accepted-lawful bytes rooms small p q in rw w.1 (omega (arith, at_most_296 p w.0 alone n));
      longest_record = judged.0;
      longest_lawful = by_judging longest_parts judged.0;
      longest_bytes = bytes_296;
      most_bytes_alone = λ bytes small rooms p q alone.
          let w = accepted-lawful bytes rooms small p q in rw w.1 (omega (arith, at_most_440 p w.0 alone));
      marked_record = judged.1;
      marked_lawful = by_judging marked_parts judged.1;
      marked_codes = codes_511;
      marked_bytes = bytes_440;
      most_codes_lem = λ bytes small rooms p q. (accepted-lawful bytes rooms small p q).0.cards.codes;
      most_bytes_unmarked_coded = λ bytes small rooms p q n.
          let w = accepted-lawful bytes rooms small p q in rw w.1 (omega (arith, at_most_361 p w.0 n));
      most_bytes = λ bytes small rooms p q. let w = accepted-lawful bytes rooms small p q in rw w.1 (omega (arith, at_most_505 p w.0));
    }
