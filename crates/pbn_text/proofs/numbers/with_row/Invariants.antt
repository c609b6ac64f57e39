-- `pbn_text::numbers::with_row` meets its contract. The loop's invariant: the first `i` numbers of the row stand behind those that were kept. Assumes nothing.
use Prim.Native.Nat.{ℕ}
use mathlib.Core.Path.{◌≡◌}
use mathlib.Core.List.{List, ◌++◌}
use lib.ListN.{take}
use Rattle.pbn_text.specs.Kept.{kept_of}
use Rattle.pbn_text.proofs.numbers.with_row.Given as goal

abbrev pub invariant-loop-number : goal.invariant-loop-number
invariant-loop-number s = (l : List ℕ) → s.initial.all ≡ kept_of l → s.all ≡ kept_of (l ++ take s.number-index s.number-items)
