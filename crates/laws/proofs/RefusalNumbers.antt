-- Each refusal has a number from 1 to 33. Assumes nothing.
use Rattle.std.proofs.Common.{◌≡◌, ◌≤◌, arith}
use Rattle.laws.specs.Refusals.{accepted}
use Rattle.laws.specs.Refused.{number}
use Rattle.laws.specs.declared.Refusal.{Refusal}
use Rattle.laws.specs.declared.Refusal.TheVariants.{ShortBuffer, RecordEnds, NoBoardOrTable, NotThirteen, NoCall, InsufficientBid, InadmissibleDouble, CallAfterEnd}
use Rattle.laws.specs.declared.Refusal.TheVariants.{AuctionUnfinished, TooManyCards, NoCard, CardNotHeld, PlayUnfinished, NoClaimPoint, ClaimTooMany, NotPadding}
use Rattle.laws.specs.declared.Refusal.TheVariants.{MalformedTally, TwoBoards, TooManyResults, InvalidScore, ScoreNotInTally, ShortRecordBuffer, CardAlreadyPlayed, WrongMark}
use Rattle.laws.specs.declared.Refusal.TheVariants.{NotExposable, ChoiceNotOpen, TooManyCodes, FouledBoard, BoardNotFree, TooManyBoards, NoEnding, OutsideSubset}
use Rattle.laws.specs.declared.Refusal.TheVariants.{TooManyCalls}

in_range : (refusal : Refusal) → (1 ≤ number refusal) × (number refusal ≤ 33)
in_range ShortBuffer = (omega arith, omega arith)
in_range RecordEnds = (omega arith, omega arith)
in_range NoBoardOrTable = (omega arith, omega arith)
in_range NotThirteen = (omega arith, omega arith)
in_range NoCall = (omega arith, omega arith)
in_range InsufficientBid = (omega arith, omega arith)
in_range InadmissibleDouble = (omega arith, omega arith)
in_range CallAfterEnd = (omega arith, omega arith)
in_range AuctionUnfinished = (omega arith, omega arith)
in_range TooManyCards = (omega arith, omega arith)
in_range NoCard = (omega arith, omega arith)
in_range CardNotHeld = (omega arith, omega arith)
in_range PlayUnfinished = (omega arith, omega arith)
in_range NoClaimPoint = (omega arith, omega arith)
in_range ClaimTooMany = (omega arith, omega arith)
in_range NotPadding = (omega arith, omega arith)
in_range MalformedTally = (omega arith, omega arith)
in_range TwoBoards = (omega arith, omega arith)
in_range TooManyResults = (omega arith, omega arith)
in_range InvalidScore = (omega arith, omega arith)
in_range ScoreNotInTally = (omega arith, omega arith)
in_range ShortRecordBuffer = (omega arith, omega arith)
in_range CardAlreadyPlayed = (omega arith, omega arith)
in_range WrongMark = (omega arith, omega arith)
in_range NotExposable = (omega arith, omega arith)
in_range ChoiceNotOpen = (omega arith, omega arith)
in_range TooManyCodes = (omega arith, omega arith)
in_range FouledBoard = (omega arith, omega arith)
in_range BoardNotFree = (omega arith, omega arith)
in_range TooManyBoards = (omega arith, omega arith)
in_range NoEnding = (omega arith, omega arith)
in_range OutsideSubset = (omega arith, omega arith)
in_range TooManyCalls = (omega arith, omega arith)

-- a refusal is not answered as none is
pub number_not_none : (refusal : Refusal) → number refusal ≡ accepted → ⊥
number_not_none refusal e = omega (arith, (in_range refusal).0)

pub number_most : (refusal : Refusal) → number refusal ≤ 33
number_most refusal = (in_range refusal).1
