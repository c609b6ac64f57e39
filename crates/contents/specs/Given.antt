-- A record's contents as they are given to be checked or written.
-- Assumes nothing.
use Rattle.std.specs.Prelude.{ℕ, List, Option, None, Some, eqb, if◌then◌else◌}
use Rattle.laws.specs.Law68.{Claim, none, agreed}
use Rattle.laws.specs.Contents.{Given}

-- the mark 0 is no claim, any other mark a claim of so many tricks
abbrev pub claim_of : ℕ → ℕ → Claim
claim_of marked tricks = if eqb marked 0 then none else agreed tricks

-- no claim, or one of so many tricks
abbrev pub claimed : Option ℕ → Claim
claimed None = none
claimed (Some tricks) = agreed tricks

-- the contents from the numbers that are given
abbrev pub given_with : ℕ → ℕ → List ℕ → List ℕ → List ℕ → Option ℕ → Given
given_with board table holders calls plays claim =
    record { board = board; table = table; deal = holders; calls = calls; plays = plays; claim = claimed claim }

-- the same with a claim by its mark and its tricks
abbrev pub given : ℕ → ℕ → List ℕ → List ℕ → List ℕ → ℕ → ℕ → Given
given board table holders calls plays marked tricks =
    record { board = board; table = table; deal = holders; calls = calls; plays = plays; claim = claim_of marked tricks }
