-- A deal as it is given: what the checks of its holders leave of it.
-- Assumes nothing.
use Rattle.std.specs.Prelude.{ℕ, List}
use Rattle.laws.specs.Refusals.{Placed}
use Rattle.laws.specs.Refused.{placed_in}
use Rattle.laws.specs.Reading.{Reading}
use Rattle.deal.specs.Hands.{words_of}
use Rattle.deal.specs.declared.given.Dealt.{Dealt}

-- by what the checks say: a refusal, or the holders and the hands
abbrev pub taken_by : List ℕ → Reading (Unit {0}) → Placed Dealt
taken_by deal r = placed_in (λ _. record { holders = deal; hands = words_of deal }) r
