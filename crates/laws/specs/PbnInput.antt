-- The program that reads Portable Bridge Notation: what it prints of its input, which has the table's number on its first line and then a text. Bytes are ASCII
-- codes.
-- Assumes nothing.
use Rattle.std.specs.Prelude.{ℕ, suc, Bool, not, ◌&&◌, List, [], ◌∷◌, ltb, leb, eqb, length, drop, if◌then◌else◌}
use Rattle.laws.specs.Refusals.{outside_subset}
use Rattle.laws.specs.Decimal.{zero_digit, starts_with, is_number, value}
use Rattle.laws.specs.Record.{encode}
use Rattle.laws.specs.Judge.{Outcome, Outcome.refused, Outcome.accepted}
use Rattle.laws.specs.Sheet.{newline}
use Rattle.laws.specs.Slip.{refusal_line}
use Rattle.laws.specs.PbnReading.{parse}
use Rattle.laws.specs.Pbn.{pbn_outcome}

-- the first line, without its newline
unfoldable pub first_line : List ℕ → List ℕ
first_line [] = []
first_line (b ∷ bytes) = if eqb b newline then [] else (b ∷ first_line bytes)

-- the first line is ended by a newline
unfoldable pub ends_line : List ℕ → Bool
ends_line input = ltb (length (first_line input)) (length input)

-- what stands behind the first line and its newline
unfoldable pub behind_line : List ℕ → List ℕ
behind_line input = drop (suc (length (first_line input))) input

-- the table that a line says: one to three digits, no zero in front; any other line counts as table 0
unfoldable pub table_on : List ℕ → ℕ
table_on line = if is_number line && (leb (length line) 3 && not (starts_with zero_digit line)) then value line else 0

-- the record's bytes as they are; or the refusal's number, a space, its place, and a newline
unfoldable pub printed : Outcome → List ℕ
printed (refused n place) = refusal_line n place
printed (accepted p) = encode p

-- so many bytes of input are held
abbrev pub most_input : ℕ
most_input = 65536

-- `over 65536 bytes` and a newline
abbrev pub over_line : List ℕ
over_line =
    111 ∷ 118 ∷ 101 ∷ 114 ∷ 32 ∷ 54 ∷ 53 ∷ 53 ∷ 51 ∷ 54 ∷ 32 ∷ 98 ∷ 121 ∷ 116 ∷ 101 ∷ 115 ∷ newline ∷ []

-- what is printed: where there are more bytes than are held, that alone; and an input without a newline has no text
unfoldable pub pbn_printed : List ℕ → List ℕ
pbn_printed input =
    if ltb most_input (length input) then over_line
    else if ends_line input then printed (pbn_outcome (parse (behind_line input)) (table_on (first_line input)))
    else refusal_line outside_subset 1
