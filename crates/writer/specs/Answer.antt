-- What the code answers where a record is written.
-- Assumes nothing.
use Rattle.std.specs.Prelude.{ℕ, length}
use Rattle.laws.specs.Refusals.{Placed, refused_at, given}
use Rattle.laws.specs.Writing.{Written, refused, written}

-- a refusal with its place, or how many bytes were written
abbrev pub written_by : Written → Placed ℕ
written_by (refused n place) = refused_at n place
written_by (written bytes) = given (length bytes)
