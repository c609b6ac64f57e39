-- The slip of a record as C asks for it: a refusal with its number and place, or the bytes of the slip. Assumes nothing.
use Rattle.std.specs.Prelude.{ℕ, List, leb, length, if◌then◌else◌}
use Rattle.laws.specs.Judge.{Outcome, Outcome.refused as declined, Outcome.accepted, least_rooms, judge_of}
use Rattle.laws.specs.Refusals.{short_record_buffer}
use Rattle.laws.specs.Slip.{slip_of}
use Rattle.laws.specs.Writing.{Written, Written.refused, Written.written}

-- the judge's refusal; else the slip, where the buffer has room for all its bytes, and 22 where it has not
abbrev pub slip_by : Outcome → ℕ → Written
slip_by (declined n place) room = refused n place
slip_by (accepted p) room = if leb (length (slip_of (accepted p))) room then written (slip_of (accepted p)) else refused short_record_buffer 0

-- what is said of a record, given a buffer of so many bytes; the judge's own buffers are long enough
unfoldable pub slip_call : List ℕ → ℕ → Written
slip_call bytes room = slip_by (judge_of bytes least_rooms) room
