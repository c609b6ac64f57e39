-- The table P1 to P12, by evaluating the definitions. Assumes nothing.
use mathlib.Core.Path.{refl}
use Rattle.laws.specs.Choice
use Rattle.laws.specs.Auction
use Rattle.laws.specs.Law44
use Rattle.laws.specs.Law64
use Rattle.laws.specs.Law77
use Rattle.laws.specs.Law78
use Rattle.laws.specs.Cards
use Rattle.promises.specs.Examples.{Examples}

pub examples : Examples
unfolding
    Choice.how_many Choice.some
    Auction.is_over Auction.has_bid Auction.last_bid Auction.passes_in_a_row
    Cards.clockwise Law44.tricks_won
    Law64.repeated Law64.is_exempt Law64.entitlement Law64.won_from Law64.dues Law64.total Law64.side_revoked Law64.both_revoked Law64.transferred_tricks
    Law77.is_made Law77.trick_value Law77.first_trick_value Law77.trick_points Law77.overtrick_value Law77.overtrick_points
    Law77.doubled_undertrick Law77.undertrick_value Law77.undertricks Law77.undertrick_points
    Law77.is_game Law77.part_score_points Law77.game_points Law77.slam_points Law77.doubling_points Law77.declarer_score Law77.valid_score
    Law78.comparison Law78.comparisons Law78.others Law78.ns_matchpoints Law78.lower_ends Law78.imps_for_size Law78.imps_of Law78.imps
examples =
    record {
      p1 = refl;
      p2 = refl;
      p3 = refl;
      p4 = refl;
      p5 = refl;
      p6 = refl;
      p7_10 = refl;
      p7_20 = refl;
      p7_490 = refl;
      p7_500 = refl;
      p7_3990 = refl;
      p7_4000 = refl;
      p7_minus_500 = refl;
      p8_420 = refl;
      p8_minus_50 = refl;
      p8_450 = refl;
      p9_none = refl;
      p9_five = refl;
      p10 = refl;
      p11 = refl;
      p12_ends = refl;
      p12_goes_on = refl;
    }
