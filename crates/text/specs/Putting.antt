-- Bytes put into other bytes at a place, and what a lent slice holds after a text was written to it. Assumes nothing.
use Rattle.std.specs.Prelude.{ℕ, ◌+◌, ◌≤◌, ◌≡◌, List, ◌++◌, leb, length, drop, Option, Some, None, if◌then◌else◌}
use Rattle.std.proofs.lemmas.List.Edits.{sets}
use Rattle.laws.specs.Fitting.{Fitting, fits, does_not_fit, where_fits}

-- the last place that a number of 64 bits can name
abbrev pub last_place : ℕ
last_place = 18446744073709551615

-- the place after so many bytes; it stays at the last one
unfoldable pub place_after : ℕ → ℕ → ℕ
place_after at n = if leb (at + n) last_place then at + n else last_place

-- a text was put at a place: each of its bytes stands there in turn, as far as there is room; the others stay, and `next` is the place after it
pub record Put (out : List ℕ) (at : ℕ) (text : List ℕ) (left : List ℕ) (next : ℕ) : Type 0 where
  pub place : next ≡ place_after at (length text)
  pub bytes : left ≡ sets out at text
  pub within : length out ≤ last_place

-- what an answer stands for: so many bytes written, or that the text does not fit
abbrev pub written : Option ℕ → Fitting ℕ
written (Some n) = fits n
written None = does_not_fit

-- the length of a text, where it fits so many bytes
unfoldable pub length_within : List ℕ → ℕ → Fitting ℕ
length_within text room = where_fits (leb (length text) room) (length text)

-- what the lent bytes are then: the text, with the other bytes as they were; or all as they were, where they are too few
unfoldable pub left_in : List ℕ → List ℕ → List ℕ
left_in out text = if leb (length text) (length out) then text ++ drop (length text) out else out
