-- The checks of a record's contents, each a line of the table of refusals. A check reads nothing: it refuses, or it lets what follows go on. The judge
-- makes them on the fields that it has read, and a writer on the contents that it is given.
-- Histories of calls (h) and of cards (g) have the latest first.
-- Assumes nothing.
use Rattle.std.specs.Prelude.{ℕ, not, ◌&&◌, ◌||◌, List, ltb, eqb}
use Rattle.laws.specs.Refusals.{no_board_or_table, not_thirteen, auction_unfinished}
use Rattle.laws.specs.Refusals.{too_many_cards, play_unfinished, no_claim_point, claim_too_many}
use Rattle.laws.specs.Cards.{no_seat, seat_without_thirteen}
use Rattle.laws.specs.Auction.{is_over, passed_out}
use Rattle.laws.specs.Law44.{cards_played, all_played}
use Rattle.laws.specs.Law68.{at_claim_point, claimable}
use Rattle.laws.specs.Reading.{Reader, refuse}

abbrev pub Check : Type 0
Check = Reader (Unit {0})

-- board 0, and table 0
abbrev pub check_board : ℕ → Check
check_board board = refuse no_board_or_table 0 (eqb board 0)

abbrev pub check_table : ℕ → Check
check_table table = refuse no_board_or_table 1 (eqb table 0)

-- Law 1: thirteen cards for each seat
abbrev pub check_deal : List ℕ → Check
check_deal deal = refuse not_thirteen (seat_without_thirteen deal) (not (eqb (seat_without_thirteen deal) no_seat))

-- Law 22: the auction is over after so many calls
abbrev pub check_over : ℕ → List ℕ → Check
check_over count h = refuse auction_unfinished count (not (is_over h))

-- at most 52 cards, and none after an auction that was passed out; the place tells their number
abbrev pub check_count : ℕ → ℕ → List ℕ → Check
check_count place count h = refuse too_many_cards place (ltb 52 count || (passed_out h && ltb 0 count))

-- without a claim a contract is played out
abbrev pub check_played_out : List ℕ → List ℕ → Check
check_played_out h g = refuse play_unfinished (cards_played g) (not (passed_out h) && not (all_played g))

-- Law 68: a claim stands at a point for it, and names no more tricks than are left; the place tells their number
abbrev pub check_claim_point : List ℕ → List ℕ → Check
check_claim_point h g = refuse no_claim_point (cards_played g) (passed_out h || not (at_claim_point g))

abbrev pub check_claim : ℕ → ℕ → List ℕ → Check
check_claim place tricks g = refuse claim_too_many place (not (claimable g tricks))
