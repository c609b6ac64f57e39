-- What the lines of a text give; all of them are of one deal. Assumes nothing.
use Rattle.std.specs.Prelude.{ℕ, ◌≡◌, List, map, Result, Ok, Err}
use Rattle.laws.specs.Sheet.{lines_of, score_of, refused_line}
use Rattle.laws.specs.Tally.{on_deal}
use Rattle.tally.specs.declared.Tally.{Tally}
use Rattle.tally.specs.Tallies.{tally_of}
use Rattle.tree_stack.specs.Deals.{suits}
use Rattle.score_lines.specs.declared.RefusedLine.{RefusedLine}

-- the tally of the scores on the lines where none is refused; else the line that is
abbrev pub Found : List ℕ → Result Tally RefusedLine → Type 0
Found bytes (Ok t) = (refused_line 1 (lines_of bytes) ≡ 0) × (t ≡ tally_of 1 (on_deal suits (map score_of (lines_of bytes))))
Found bytes (Err line) = (refused_line 1 (lines_of bytes) ≡ line.0) × (line.0 ≡ 0 → ⊥)
