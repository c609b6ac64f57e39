-- What a read of a bit field answers.
-- Assumes nothing.
use Rattle.std.specs.Prelude.{ℕ, ◌+◌, ◌*◌, ◌≡◌, ◌<◌, ◌&&◌, List, leb, length, get_or, if◌then◌else◌}
use Rattle.laws.specs.Refusals.{Answer, refused, answered, record_ends}
use Rattle.laws.specs.Reading.{number_at}

-- a byte of the list, 0 past the end
abbrev pub Byte : List ℕ → ℕ → ℕ → Type 0
Byte bytes i b = (b ≡ get_or bytes i 0) × (b < 256)

-- the number of w bits from a bit on, where they lie whole within the bytes; else 2. A width over 16 is 2 too: no field is so wide
unfoldable pub field_at : List ℕ → ℕ → ℕ → Answer ℕ
field_at bytes at w = if leb w 16 && leb (at + w) (8 * length bytes) then answered (number_at bytes at w) else refused record_ends
