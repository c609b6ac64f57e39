-- Writing a record from its contents into a lent buffer: what the writer says, the number that it returns, and what it leaves in the buffer.
-- Assumes nothing.
use Rattle.std.specs.Prelude.{ℕ, List, ltb, length, if◌then◌else◌}
use Rattle.laws.specs.Refusals.{refusal_number, short_record_buffer}
use Rattle.laws.specs.Record.{encode}
use Rattle.laws.specs.Judge.{Outcome, Outcome.refused as declined, Outcome.accepted}
use Rattle.laws.specs.Contents.{Given, contents_of}
use Rattle.laws.specs.Lent.{◌over◌}

-- a refusal with its number and place, or the bytes of the record
pub data Written : Type 0 where
  refused : ℕ → ℕ → Written
  written : List ℕ → Written

-- accepted contents are written where the buffer has room for all their bytes
abbrev pub write_by : Outcome → ℕ → Written
write_by (declined n place) room = refused n place
write_by (accepted p) room = if ltb room (length (encode p)) then refused short_record_buffer 0 else written (encode p)

-- what the writer says of the contents, given a buffer of so many bytes
unfoldable pub write_of : Given → ℕ → Written
write_of c room = write_by (contents_of c) room

-- the number returned: how many bytes were written, or refusal × 1024 + place
abbrev pub number_of : Written → ℕ
number_of (refused n place) = refusal_number n place
number_of (written bytes) = length bytes

-- the buffer: as it was where the contents are refused, else the record's bytes over its front
unfoldable pub record_left : Written → List ℕ → List ℕ
record_left (refused n place) old = old
record_left (written bytes) old = bytes over old
