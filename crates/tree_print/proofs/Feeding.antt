-- A script's bytes taken one by one. Assumes nothing.
use Prim.Native.Nat.{ℕ, ◌+◌, ◌≤◌, ◌<◌}
use native.Mathlib.Numerals.{add-one}
use mathlib.Core.Path.{◌≡◌}
use mathlib.Core.List.{List}
use lib.ListN.{length, get_or, drop, drop_of_length-le}
use lib.Seq.{drop-cons}
use Rattle.tree_run.specs.declared.Run.{Run}
use Rattle.tree_run.specs.Runs.{taken_byte}
use Rattle.tree_print.specs.Printing.{fed_of}

pub fed_more : (r : Run) (s : List ℕ) (i : ℕ) → i < length s → fed_of r (drop i s) ≡ fed_of (taken_byte r (get_or s i 0)).run (drop (i + 1) s)
unfolding fed_of
fed_more r s i h = rw (add-one i, drop-cons s i 0 h)

pub fed_all : (r : Run) (s : List ℕ) (i : ℕ) → length s ≤ i → r ≡ fed_of r (drop i s)
unfolding fed_of
fed_all r s i h = rw (drop_of_length-le s h)
