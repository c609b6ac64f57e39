-- What a check of a tally answers, and refusals one by one.
-- Assumes nothing.
use Rattle.std.specs.Prelude.{ℕ, Bool, not, ◌&&◌, List, eqb, ℤ, length, Option, Some, None, Result, Ok, Err, if◌then◌else◌}
use Rattle.laws.specs.Refusals.{Placed, refused_at, fouled_board}
use Rattle.laws.specs.Refused.{number, placed_by}
use Rattle.laws.specs.declared.Refusal.TheVariants.{MalformedTally}
use Rattle.laws.specs.declared.Refused.{Refused}
use Rattle.laws.specs.Tally.{same_deal, Refusal, refusal, refusal_if, score_refusal, deal_refusal, ◌or_else◌}
use Rattle.laws.specs.Refusals.{accepted}
use Rattle.deal.specs.declared.given.Dealt.{Dealt}
use Rattle.tally.specs.declared.Size.{Size}
use Rattle.tally.specs.declared.Tally.{Tally}
use Rattle.tally.specs.Tallies.{entries_in, scores_in, well_formed}

-- how many places a tally uses, and its number of results
abbrev pub size_of : Tally → Size
size_of t = record { used = length (entries_in t); results = length (scores_in t) }

-- its size, where a test holds
abbrev pub sized : Bool → Tally → Option Size
sized test t = if test then Some (size_of t) else None

-- what a check of a tally answers: its size where it is well formed, else 17
unfoldable pub check_of : Tally → Result Size Refused
check_of t = if well_formed t then Ok (size_of t) else Err (record { refusal = MalformedTally; place = 0 })

-- ---- deals and refusals
-- so many results of one deal and so many of another: both have one, and the deals differ
unfoldable pub apart : ℕ → ℕ → List ℕ → List ℕ → Bool
apart results others deal deal2 = not (eqb results 0) && (not (eqb others 0) && not (same_deal deal deal2))

-- the deal of the first of two tallies, by its number of results; of the second where the first has none
unfoldable pub kept_deal : ℕ → List ℕ → List ℕ → List ℕ
kept_deal results deal deal2 = if eqb results 0 then deal2 else deal

-- a refusal of the code as one of the rules
abbrev pub ruled : Refused → Refusal
ruled e = record { number = number e.refusal; place = e.place }

-- what the code answers, as a refusal of the rules
abbrev pub held : {A : Type 0} → Result A Refused → Refusal
held (Ok a) = refusal accepted
held (Err e) = ruled e

-- the refusals of a score with its deal: 20, then 4, then 28 beside so many results of the deal that a tally carries
unfoldable pub given_by : List ℕ → ℕ → ℤ → List ℕ → Refusal
given_by carried results score deal =
    score_refusal score or_else deal_refusal deal or_else refusal_if (apart results 1 carried deal) fouled_board

-- the same with the deal as it was taken: its own refusal directly after 20, or its holders, where 28 is not said of them
unfoldable pub dealt_by : List ℕ → ℕ → ℤ → Result Dealt Refused → Placed (List ℕ)
dealt_by carried results score (Ok d) =
    let r = score_refusal score or_else refusal_if (apart results 1 carried d.holders) fouled_board in
    placed_by r.number r.place d.holders
dealt_by carried results score (Err e) =
    let r = score_refusal score or_else ruled e in
    refused_at r.number r.place
