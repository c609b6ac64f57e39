-- `team_match::boards_used` meets its contract. The loop's invariant: those counted and those from the place on are all of them. Assumes nothing.
use Prim.Native.Nat.{◌≤◌, ◌+◌}
use mathlib.Core.Path.{◌≡◌}
use lib.ListN.{length}
use Rattle.team_match.proofs.Boards.{count_from}
use Rattle.team_match.proofs.boards_used.Given as goal

abbrev pub invariant-loop-used : goal.invariant-loop-used
invariant-loop-used l = (l.n ≤ l.used-index) × (length l.fn.m.used ≡ 128) × (count_from l.fn.m.used 0 ≡ l.n + count_from l.fn.m.used l.used-index)
