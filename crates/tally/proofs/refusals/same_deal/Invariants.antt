-- `tally::refusals::same_deal` meets its contract. The loop's invariant: no holder is counted and the cards from `i` on are the same exactly where all cards
-- are. Assumes nothing.
use Rattle.std.proofs.Common.{◌≡◌, ◌≤◌}
use mathlib.Core.Bool.{◌&&◌}
use lib.Dec.{eqb}
use Rattle.laws.specs.Tally.{same_deal}
use Rattle.tally.proofs.Dealing.{same_from}
use Rattle.tally.proofs.refusals.same_deal.Given as goal

abbrev pub invariant-loop-i : goal.invariant-loop-i
invariant-loop-i l =
    (l.others ≤ l.i) × (same_deal l.fn.holders l.fn.holders2 ≡ (eqb l.others 0 && same_from l.fn.holders l.fn.holders2 l.i))
