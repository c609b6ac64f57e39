-- What the code keeps of a whole text. Assumes nothing.
use Rattle.std.specs.Prelude.{ℕ, ◌≤◌, min, ◌≡◌, List, length, Result, Ok, Err}
use Rattle.laws.specs.PbnReading.{Stage, State, outside, game, end_in}
use Rattle.laws.specs.PbnReading as Reading
use Rattle.laws.specs.Pbn.{last_place}
use Rattle.pbn_text.specs.declared.state.Text.{Text}
use Rattle.pbn_text.specs.TextOf.{text_of}

-- the line where it stopped, no more than 1023; or what was read
abbrev pub ParsedAs : Reading.Parsed → Result Text ℕ → Type 0
ParsedAs (outside line) (Err n) = (n ≡ min line last_place) × (1 ≤ line)
ParsedAs (outside line) (Ok t) = ⊥
ParsedAs (game x) (Err n) = ⊥
ParsedAs (game x) (Ok t) = (stage : Stage) × (t ≡ text_of (record { stage = stage; game = x }))

-- .. at what stands after the last newline
abbrev pub EndsAs : Text → ℕ → ℕ → Result Text ℕ → Type 0
EndsAs t line rest r =
    (s : State) (n : ℕ) (l : List ℕ) → t ≡ text_of s → line ≡ min n last_place → 1 ≤ n → rest ≡ length l → ParsedAs (end_in s n l) r
