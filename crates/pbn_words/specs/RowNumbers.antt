-- What the function that reads a line of words answers. Assumes nothing.
use Rattle.std.specs.Prelude.{ℕ, ◌-◌, Bool, List, ◌++◌, ltb, length, replicate, Option, Some, None, if◌then◌else◌}
use Rattle.laws.specs.PbnReading.{Read, misses, reads, row_in}
use Rattle.pbn_words.specs.WordNumbers.{word_of, words}
use Rattle.pbn_words.specs.declared.rows.Row.{Row}

-- the calls, or the cards, of a line
abbrev pub row_on : Bool → List ℕ → Read (List ℕ)
row_on cards line = row_in (word_of cards) (words cards) line

-- one to four numbers; more are none
unfoldable pub row_by : Read (List ℕ) → Option Row
row_by misses = None
row_by (reads row) = if ltb 4 (length row) then None else Some (record { count = length row; numbers = row ++ replicate (4 - length row) 0 })
