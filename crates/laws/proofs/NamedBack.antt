-- A refusal's number determines it. Assumes nothing.
use Prim.Native.Nat.{ℕ}
use mathlib.Core.List.{List, [], ◌∷◌}
use lib.ListN.{get_or}
use mathlib.Core.Path.{◌≡◌, refl, sym, ap, ap₂, ◌∙◌}
use Rattle.laws.specs.declared.Refusal.{Refusal}
use Rattle.laws.specs.declared.Refusal.TheVariants.{ShortBuffer, RecordEnds, NoBoardOrTable, NotThirteen, NoCall, InsufficientBid, InadmissibleDouble, CallAfterEnd}
use Rattle.laws.specs.declared.Refusal.TheVariants.{AuctionUnfinished, TooManyCards, NoCard, CardNotHeld, PlayUnfinished, NoClaimPoint, ClaimTooMany, NotPadding}
use Rattle.laws.specs.declared.Refusal.TheVariants.{MalformedTally, TwoBoards, TooManyResults, InvalidScore, ScoreNotInTally, ShortRecordBuffer, CardAlreadyPlayed, WrongMark}
use Rattle.laws.specs.declared.Refusal.TheVariants.{NotExposable, ChoiceNotOpen, TooManyCodes, FouledBoard, BoardNotFree, TooManyBoards, NoEnding, OutsideSubset}
use Rattle.laws.specs.declared.Refusal.TheVariants.{TooManyCalls}
use Rattle.laws.specs.declared.Refused.{Refused}
use Rattle.laws.specs.Refusals.{Placed, refused_at}
use Rattle.laws.specs.Refused.{number}

-- the refusals by their numbers, from 1 on; at 0, which is none's, stands the first
by_number : List Refusal
by_number =
    ShortBuffer
    ∷ ShortBuffer ∷ RecordEnds ∷ NoBoardOrTable ∷ NotThirteen ∷ NoCall ∷ InsufficientBid ∷ InadmissibleDouble
    ∷ CallAfterEnd ∷ AuctionUnfinished ∷ TooManyCards ∷ NoCard ∷ CardNotHeld ∷ PlayUnfinished ∷ NoClaimPoint
    ∷ ClaimTooMany ∷ NotPadding ∷ MalformedTally ∷ TwoBoards ∷ TooManyResults ∷ InvalidScore ∷ ScoreNotInTally
    ∷ ShortRecordBuffer ∷ CardAlreadyPlayed ∷ WrongMark ∷ NotExposable ∷ ChoiceNotOpen ∷ TooManyCodes ∷ FouledBoard
    ∷ BoardNotFree ∷ TooManyBoards ∷ NoEnding ∷ OutsideSubset ∷ TooManyCalls
    ∷ []

named : ℕ → Refusal
named n = get_or by_number n ShortBuffer

named_back : (r : Refusal) → named (number r) ≡ r
unfolding named by_number
named_back ShortBuffer = refl
named_back RecordEnds = refl
named_back NoBoardOrTable = refl
named_back NotThirteen = refl
named_back NoCall = refl
named_back InsufficientBid = refl
named_back InadmissibleDouble = refl
named_back CallAfterEnd = refl
named_back AuctionUnfinished = refl
named_back TooManyCards = refl
named_back NoCard = refl
named_back CardNotHeld = refl
named_back PlayUnfinished = refl
named_back NoClaimPoint = refl
named_back ClaimTooMany = refl
named_back NotPadding = refl
named_back MalformedTally = refl
named_back TwoBoards = refl
named_back TooManyResults = refl
named_back InvalidScore = refl
named_back ScoreNotInTally = refl
named_back ShortRecordBuffer = refl
named_back CardAlreadyPlayed = refl
named_back WrongMark = refl
named_back NotExposable = refl
named_back ChoiceNotOpen = refl
named_back TooManyCodes = refl
named_back FouledBoard = refl
named_back BoardNotFree = refl
named_back TooManyBoards = refl
named_back NoEnding = refl
named_back OutsideSubset = refl
named_back TooManyCalls = refl

pub one_refusal : (r s : Refusal) → number r ≡ number s → r ≡ s
one_refusal r s e = sym (named_back r) ∙ (ap named e ∙ named_back s)

-- a refusal with its place
pub one_place : {A : Type 0} (x y : Refused) → ◌≡◌ {A = Placed A} (refused_at (number x.refusal) x.place) (refused_at (number y.refusal) y.place) → x ≡ y
one_place {A} x y e = ap₂ (λ (r : Refusal) (p : ℕ). record { refusal = r; place = p }) (one_refusal x.refusal y.refusal (same-number e)) (same-place e)
  where
    same-number : {n m p q : ℕ} → ◌≡◌ {A = Placed A} (refused_at n p) (refused_at m q) → n ≡ m
    same-number k = cc

    same-place : {n m p q : ℕ} → ◌≡◌ {A = Placed A} (refused_at n p) (refused_at m q) → p ≡ q
    same-place k = cc
