-- Refusals as the code names them: each with its number, and what is answered where something may be refused.
-- Assumes nothing.
use Rattle.std.specs.Prelude.{ℕ, eqb, Result, Ok, Err, if◌then◌else◌}
use Rattle.laws.specs.declared.Refusal.{Refusal}
use Rattle.laws.specs.declared.Refusal.TheVariants.{ShortBuffer, RecordEnds, NoBoardOrTable, NotThirteen, NoCall, InsufficientBid, InadmissibleDouble, CallAfterEnd}
use Rattle.laws.specs.declared.Refusal.TheVariants.{AuctionUnfinished, TooManyCards, NoCard, CardNotHeld, PlayUnfinished, NoClaimPoint, ClaimTooMany, NotPadding}
use Rattle.laws.specs.declared.Refusal.TheVariants.{MalformedTally, TwoBoards, TooManyResults, InvalidScore, ScoreNotInTally, ShortRecordBuffer, CardAlreadyPlayed, WrongMark}
use Rattle.laws.specs.declared.Refusal.TheVariants.{NotExposable, ChoiceNotOpen, TooManyCodes, FouledBoard, BoardNotFree, TooManyBoards, NoEnding, OutsideSubset}
use Rattle.laws.specs.declared.Refusal.TheVariants.{TooManyCalls}
use Rattle.laws.specs.declared.Refused.{Refused}
use Rattle.laws.specs.Refusals.{Answer, refused, answered, Placed, refused_at, given, refusal_number, accepted}
use Rattle.laws.specs.Refusals as Numbers
use Rattle.laws.specs.Reading.{Reading}

-- the number of a refusal
abbrev pub number : Refusal → ℕ
number ShortBuffer = Numbers.short_buffer
number RecordEnds = Numbers.record_ends
number NoBoardOrTable = Numbers.no_board_or_table
number NotThirteen = Numbers.not_thirteen
number NoCall = Numbers.no_call
number InsufficientBid = Numbers.insufficient_bid
number InadmissibleDouble = Numbers.inadmissible_double
number CallAfterEnd = Numbers.call_after_end
number AuctionUnfinished = Numbers.auction_unfinished
number TooManyCards = Numbers.too_many_cards
number NoCard = Numbers.no_card
number CardNotHeld = Numbers.card_not_held
number PlayUnfinished = Numbers.play_unfinished
number NoClaimPoint = Numbers.no_claim_point
number ClaimTooMany = Numbers.claim_too_many
number NotPadding = Numbers.not_padding
number MalformedTally = Numbers.malformed_tally
number TwoBoards = Numbers.two_boards
number TooManyResults = Numbers.too_many_results
number InvalidScore = Numbers.invalid_score
number ScoreNotInTally = Numbers.score_not_in_tally
number ShortRecordBuffer = Numbers.short_record_buffer
number CardAlreadyPlayed = Numbers.card_already_played
number WrongMark = Numbers.wrong_mark
number NotExposable = Numbers.not_exposable
number ChoiceNotOpen = Numbers.choice_not_open
number TooManyCodes = Numbers.too_many_codes
number FouledBoard = Numbers.fouled_board
number BoardNotFree = Numbers.board_not_free
number TooManyBoards = Numbers.too_many_boards
number NoEnding = Numbers.no_ending
number OutsideSubset = Numbers.outside_subset
number TooManyCalls = Numbers.too_many_calls

-- a refusal and its place as one number
abbrev pub number_with_place : Refused → ℕ
number_with_place e = refusal_number (number e.refusal) e.place

-- the number of the refusal, 0 where there is none
abbrev pub number_or_none : {A : Type 0} → Result A Refusal → ℕ
number_or_none (Ok a) = accepted
number_or_none (Err refusal) = number refusal

-- an answer whose refusals have no place, with their numbers
abbrev pub answer_of : {A : Type 0} → Result A Refusal → Answer A
answer_of (Ok a) = answered a
answer_of (Err refusal) = refused (number refusal)

-- an answer whose refusals have places, with their numbers
abbrev pub placed_of : {A : Type 0} → Result A Refused → Placed A
placed_of (Ok a) = given a
placed_of (Err e) = refused_at (number e.refusal) e.place

-- an answer by the number of a refusal, 0 for none
abbrev pub answer_by : {A : Type 0} → ℕ → A → Answer A
answer_by n a = if eqb n accepted then answered a else refused n

-- the same with the refusal's place
abbrev pub placed_by : {A : Type 0} → ℕ → ℕ → A → Placed A
placed_by n place a = if eqb n accepted then given a else refused_at n place

-- what is answered where a value is read and something is made of it
abbrev pub placed_in : {A B : Type 0} → (A → B) → Reading A → Placed B
placed_in f (Reading.refused n place) = refused_at n place
placed_in f (Reading.found a at) = given (f a)

-- what is answered where it only counts whether something is refused
abbrev pub checked_in : {A : Type 0} → Reading A → Placed (Unit {0})
checked_in r = placed_in (λ _. tt) r
