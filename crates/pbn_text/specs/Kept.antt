-- A list of numbers as far as it is kept. Assumes nothing.
use Rattle.std.specs.Prelude.{ℕ, min, List, ◌++◌, length, take, replicate}
use Rattle.pbn_text.specs.declared.numbers.Numbers.{Numbers}

-- the first 511 numbers, zeros behind them, and how many there are, 512 for more than 511
unfoldable pub kept_of : List ℕ → Numbers
kept_of l = record { count = min (length l) 512; numbers = take 511 (l ++ replicate 511 0) }
