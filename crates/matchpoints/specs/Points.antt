-- What the answer of matchpoints stands for, and how a tally's results stand to a score.
-- Assumes nothing.
use Rattle.std.specs.Prelude.{ℕ, ℤ, length, Result, Ok, Err, if◌then◌else◌}
use Rattle.std.specs.Int.Signed.{lt_z}
use Rattle.laws.specs.Choice.{how_many}
use Rattle.laws.specs.Refusals.{Placed, refused_at, given}
use Rattle.laws.specs.Law78.{same_score, occurrences, Points}
use Rattle.tally.specs.declared.Tally.{Tally}
use Rattle.tally.specs.Tallies.{scores_in}
use Rattle.laws.specs.Refused.{number}
use Rattle.laws.specs.declared.Refused.{Refused}
use Rattle.matchpoints.specs.declared.points.BothSides.{BothSides}
use Rattle.matchpoints.specs.declared.points.Standing.{Standing}

-- what an answer to a result stands for: a refusal by its number and its place, or the matchpoints of both sides
abbrev pub points_answer : Result BothSides Refused → Placed Points
points_answer (Ok p) = given (record { ns = p.ns.0; ew = p.ew.0 })
points_answer (Err e) = refused_at (number e.refusal) e.place

-- the results of an entry that are below a score
unfoldable pub below_of : ℤ → ℤ → ℕ → ℕ
below_of s other n = if lt_z other s then n else 0

-- the results of an entry that are equal to a score
unfoldable pub equal_of : ℤ → ℤ → ℕ → ℕ
equal_of s other n = if same_score s other then n else 0

-- how a tally's results stand to a score
abbrev pub standing_of : Tally → ℤ → Standing
standing_of t s =
    record { below = how_many (λ (r : ℤ). lt_z r s) (scores_in t); equal = occurrences s (scores_in t); results = length (scores_in t) }
