-- The numbers of the refusals, each named once, with the Law that is not met where one is.
-- Assumes nothing.
use Rattle.std.specs.Prelude.{ℕ, ◌+◌, ◌*◌, Bool, ◌&&◌, ◌||◌, leb, eqb}

-- what is answered to a question whose refusals have no place: a refusal by its number, or a value
pub data Answer (A : Type 0) : Type 0 where
  refused : ℕ → Answer A
  answered : A → Answer A

-- what is answered to a question: a refusal by its number and its place, or a value
pub data Placed (A : Type 0) : Type 0 where
  refused_at : ℕ → ℕ → Placed A
  given : A → Placed A

-- an answer whose refusals have place 0
abbrev pub placed : {A : Type 0} → Answer A → Placed A
placed (refused n) = refused_at n 0
placed (answered a) = given a

-- a refusal and its place as one number
abbrev pub refusal_number : ℕ → ℕ → ℕ
refusal_number n place = n * 1024 + place

-- no refusal
abbrev pub accepted : ℕ
accepted = 0

-- a lent buffer is too short: the answer's, place 0, the list's, place 1, that of the plays against 50C or 50D1, place 2, or the winners', place 3
abbrev pub short_buffer : ℕ
short_buffer = 1

-- the record ends before a field is whole
abbrev pub record_ends : ℕ
record_ends = 2

-- board 0, place 0, or table 0, place 1; a fresh tally of a board outside 1 to 127
abbrev pub no_board_or_table : ℕ
no_board_or_table = 3

-- Law 1: a seat without thirteen cards; its place is the seat, or 4 where some holder is no seat
abbrev pub not_thirteen : ℕ
not_thirteen = 4

-- a code that is neither a call nor a mark
abbrev pub no_call : ℕ
no_call = 5

-- Law 27: a bid without a mark that is not above the last
abbrev pub insufficient_bid : ℕ
insufficient_bid = 6

-- Law 36: a double or a redouble that is not allowed
abbrev pub inadmissible_double : ℕ
inadmissible_double = 7

-- Law 39: a call after the end of the auction
abbrev pub call_after_end : ℕ
call_after_end = 8

-- Law 22: the calls stop before the end of the auction
abbrev pub auction_unfinished : ℕ
auction_unfinished = 9

-- a play count over 52, or over 0 on a board that was passed out
abbrev pub too_many_cards : ℕ
too_many_cards = 10

-- a code that is no card
abbrev pub no_card : ℕ
no_card = 11

-- Law 44: a card that was not dealt to the seat at turn
abbrev pub card_not_held : ℕ
card_not_held = 12

-- a contract without a claim, and fewer than 52 cards
abbrev pub play_unfinished : ℕ
play_unfinished = 13

-- Law 68: a claim before the first card or after the last, or on a board that was passed out
abbrev pub no_claim_point : ℕ
no_claim_point = 14

-- Law 68: a claim of more tricks than are left
abbrev pub claim_too_many : ℕ
claim_too_many = 15

-- a padding bit is 1, or a byte follows
abbrev pub not_padding : ℕ
not_padding = 16

-- a tally, or a state of a team match, that is not as described
abbrev pub malformed_tally : ℕ
malformed_tally = 17

-- tallies of two boards merged
abbrev pub two_boards : ℕ
two_boards = 18

-- more than 128 results
abbrev pub too_many_results : ℕ
too_many_results = 19

-- a score that is not valid
abbrev pub invalid_score : ℕ
invalid_score = 20

-- a score that the tally does not have
abbrev pub score_not_in_tally : ℕ
score_not_in_tally = 21

-- a buffer that is too short for the record that is written into it
abbrev pub short_record_buffer : ℕ
short_record_buffer = 22

-- Law 44: a card that the seat at turn has played already
abbrev pub card_already_played : ℕ
card_already_played = 23

-- Law 27A: a mark that is not followed by a bid at or below a last bid
abbrev pub wrong_mark : ℕ
wrong_mark = 24

-- Laws 48 and 49: an exposed code that is no card in a defender's hand, or is faced already
abbrev pub not_exposable : ℕ
not_exposable = 25

-- Laws 50D2 and 51B: a lead choice that is not open
abbrev pub choice_not_open : ℕ
choice_not_open = 26

-- a 41st code of an exposure or a choice
abbrev pub too_many_codes : ℕ
too_many_codes = 27

-- Law 87: a fouled board, results of two deals under one number
abbrev pub fouled_board : ℕ
fouled_board = 28

-- a board of a team match that is outside 1 to 127, or was used already
abbrev pub board_not_free : ℕ
board_not_free = 29

-- a 33rd board of a team match
abbrev pub too_many_boards : ℕ
too_many_boards = 30

-- best play asked for on a board that was passed out, with more than sixteen cards left, or not at a trick's end
abbrev pub no_ending : ℕ
no_ending = 31

-- a text outside the subset of Portable Bridge Notation; the seat of its Auction tag is not the dealer, or Play or its seat is not as the calls have it
abbrev pub outside_subset : ℕ
outside_subset = 32

-- more than 511 codes of calls and marks given for a record
abbrev pub too_many_calls : ℕ
too_many_calls = 33

-- the numbers that a record is refused with: 1 to 16 and 23 to 27
abbrev pub refuses_record : ℕ → Bool
refuses_record n = (leb 1 n && leb n 16) || (leb 23 n && leb n 27)

-- those up to the last card: 2 to 12 and 23 to 27
abbrev pub refuses_to_last_card : ℕ → Bool
refuses_to_last_card n = (leb 2 n && leb n 12) || (leb 23 n && leb n 27)

-- those behind it: 2 and 13 to 16
abbrev pub refuses_behind : ℕ → Bool
refuses_behind n = eqb n record_ends || (leb 13 n && leb n 16)

-- the numbers that contents are refused with when a record is written from them: 3 to 15, 22 to 27, and 33
abbrev pub refuses_contents : ℕ → Bool
refuses_contents n = (leb 3 n && leb n 15) || ((leb 22 n && leb n 27) || eqb n too_many_calls)

-- the numbers that a text of Portable Bridge Notation is refused with before its record is written: 3, 4, 6 to 9, 12, 23, 32 and 33
abbrev pub refuses_game : ℕ → Bool
refuses_game n =
    (eqb n no_board_or_table || eqb n not_thirteen)
    || ((leb 6 n && leb n 9)
    || ((eqb n card_not_held || eqb n card_already_played)
    || (leb 32 n && leb n 33)))

-- and 22 where there is no room for it
abbrev pub refuses_text : ℕ → Bool
refuses_text n = refuses_game n || eqb n short_record_buffer
