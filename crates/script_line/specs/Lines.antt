-- A script's line as its bytes come. Assumes nothing.
use Rattle.std.specs.Prelude.{ℕ, ◌+◌, Bool, List, ltb, set, take, replicate, if◌then◌else◌}
use Rattle.script_line.specs.declared.Line.{Line}

-- before the first byte
unfoldable pub first_line : Line
first_line = record { bytes = replicate 20 0; length = 0; number = 0 }

-- a byte at the end of the line; a line of more than 20 bytes is longer than any call of a script, and its length stays 21
unfoldable pub with_byte : Line → ℕ → Line
with_byte l b =
    if ltb l.length 20 then record { bytes = set l.bytes l.length b; length = l.length + 1; number = l.number }
    else record { bytes = l.bytes; length = 21; number = l.number }

-- how many lines are whole after so many; the last number that the type can hold stays
unfoldable pub next_number : ℕ → ℕ
next_number n = if ltb n 18446744073709551615 then n + 1 else n

-- the line is whole, and the next one is empty
unfoldable pub next_line : Line → Line
next_line l = record { bytes = l.bytes; length = 0; number = next_number l.number }

-- a line is longer than any call
abbrev pub too_long : Line → Bool
too_long l = ltb 20 l.length

-- the bytes of a line that is not
abbrev pub text_of : Line → List ℕ
text_of l = take l.length l.bytes
