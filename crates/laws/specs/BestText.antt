-- What best play would give from a record, as text: the tricks, or the refusal's number, a space and its place; and a newline.
-- Bytes are ASCII codes.
-- Assumes nothing.
use Rattle.std.specs.Prelude.{ℕ, List, [], ◌∷◌, ◌++◌}
use Rattle.laws.specs.Refusals.{Placed, refused_at, given}
use Rattle.laws.specs.Decimal.{decimal}
use Rattle.laws.specs.Sheet.{newline}
use Rattle.laws.specs.Slip.{refusal_line}
use Rattle.laws.specs.BestRecord.{best_of}

unfoldable pub tricks_line : ℕ → List ℕ
tricks_line tricks = decimal tricks ++ (newline ∷ [])

unfoldable pub text_of : Placed ℕ → List ℕ
text_of (refused_at n place) = refusal_line n place
text_of (given tricks) = tricks_line tricks

-- the text of a record
unfoldable pub best_text : List ℕ → List ℕ
best_text bytes = text_of (best_of bytes)

-- no such text has more bytes: two digits, a space, four digits and a newline
abbrev pub most_text_bytes : ℕ
most_text_bytes = 8
