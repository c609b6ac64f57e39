-- The byte examples of docs/RULES.md, by evaluating the judge's definitions. Assumes nothing.
use Prim.Native.Nat.{◌+◌, ◌*◌}
use mathlib.Core.Path.{◌≡◌, refl}
use mathlib.Core.Bool.{true, false}
use mathlib.Core.List.{[], ◌∷◌, ◌++◌, reverse}
use lib.ListN.{take}
use Rattle.laws.specs.Choice
use Rattle.laws.specs.Cards
use Rattle.laws.specs.Law2
use Rattle.laws.specs.Auction
use Rattle.laws.specs.CallRefusal
use Rattle.laws.specs.Law44
use Rattle.laws.specs.CardRefusal
use Rattle.laws.specs.Events
use Rattle.laws.specs.Law68
use Rattle.laws.specs.Record
use Rattle.laws.specs.Reading
use Rattle.laws.specs.Plays
use Rattle.laws.specs.Judge
use Rattle.laws.specs.Judgement
use Rattle.laws.specs.Auction.{passed_out}
use Rattle.laws.specs.Cards.{north, east}
use Rattle.laws.specs.Record.{encode}
use Rattle.laws.specs.Judge.{Outcome.accepted, least_rooms, judge_of, number_of}
use Rattle.laws.specs.Judgement.{winners_bytes}
use Rattle.promises.specs.Demand2.{four_passes, passed_out_parts, one_club, fifth_card}
use Rattle.promises.specs.Demand2Winners.{one_notrump}

-- what the judge says of the two records, of three that are one off, and of a fifth card that North does not hold
pub record Judged : Type 0 where
  pub bytes : four_passes ≡ encode passed_out_parts
  pub passed_out_lem : judge_of (encode passed_out_parts) least_rooms ≡ accepted passed_out_parts
  pub no_contract : passed_out (reverse passed_out_parts.calls) ≡ true
  pub one_less_lem : number_of (judge_of (take 19 four_passes) least_rooms) ≡ 2 * 1024
  pub one_more : number_of (judge_of (four_passes ++ (0 ∷ [])) least_rooms) ≡ 16 * 1024
  pub claim_12 : judge_of (encode (one_club 12)) least_rooms ≡ accepted (one_club 12)
  pub contract : passed_out (reverse (one_club 12).calls) ≡ false
  pub claim_13 : number_of (judge_of (encode (one_club 13)) least_rooms) ≡ 15 * 1024 + 13
  pub own_again : number_of (judge_of (encode (fifth_card 0)) least_rooms) ≡ 23 * 1024 + 4
  pub easts_again : number_of (judge_of (encode (fifth_card 13)) least_rooms) ≡ 12 * 1024 + 4
  pub easts : number_of (judge_of (encode (fifth_card 14)) least_rooms) ≡ 12 * 1024 + 4
  pub notrump : judge_of (encode one_notrump) least_rooms ≡ accepted one_notrump
  pub trump_wins : winners_bytes (one_club 12) ≡ north ∷ 0 ∷ []
  pub suit_led_wins : winners_bytes one_notrump ≡ east ∷ 13 ∷ []

pub judged : Judged
unfolding
    Choice.how_many Choice.some Cards.clockwise Cards.cards_dealt Cards.first_without_thirteen Law2.dealer
    Auction.strain_of Auction.codes_before Auction.calls_made Auction.is_marked Auction.to_call Auction.last_bid Auction.last_bidder Auction.before_passes
    Auction.bid_by_opponents Auction.bid_by_own_side Auction.doubled_own_bid Auction.sufficient Auction.at_or_below Auction.may_double Auction.may_redouble
    Auction.passes_in_a_row Auction.has_bid Auction.is_over Auction.passed_out Auction.allowed
    Auction.bids_strain Auction.first_to_bid Auction.declarer Auction.trump_after Auction.opening_after CallRefusal.call_refusal
    CallRefusal.place_of CallRefusal.call_place
    Law44.cards_played Law44.all_played Law44.tricks_complete Law44.tricks_left Law44.cards_in_trick Law44.trick_under_way
    Law44.suit_led Law44.highest Law44.winning_card Law44.player_of Law44.winner Law44.leader Law44.to_play
    Law44.won_by Law44.won_tricks Law44.is_played Law44.holds Law44.has_played Law44.playable CardRefusal.card_refusal Law68.at_claim_point Law68.claimable
    Events.cards_of Events.cards_among Events.as_events
    Record.row Record.event_fields Record.play_fields Record.claim_fields Record.layout
    Record.bits Record.padding Record.padded Record.number Record.bytes_of Record.packed Record.encode
    Reading.bit_at Reading.number_at Reading.read Reading.refuse Reading.read_row Reading.read_each Reading.overfull Reading.ending Plays.read_plays
    Judge.read_heading Judge.read_deal Judge.read_calls Judge.read_cards Judge.read_no_claim Judge.read_marked_claim Judge.read_claim
    Judge.read_record Judge.read_lent Judge.judge_of Judgement.won_tricks_of Judgement.won_bytes Judgement.winners_bytes
judged =
    record {
      bytes = refl;
      passed_out_lem = refl;
      no_contract = refl;
      one_less_lem = refl;
      one_more = refl;
      claim_12 = refl;
      contract = refl;
      claim_13 = refl;
      own_again = refl;
      easts_again = refl;
      easts = refl;
      notrump = refl;
      trump_wins = refl;
      suit_led_wins = refl;
    }
