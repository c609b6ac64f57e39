-- `transfer::available` meets its contract: the tricks won, and those claimed. Assumes nothing.
use Prim.Native.Nat.{◌-◌, ◌/◌, ◌%◌}
use mathlib.Core.Path.{◌≡◌}
use native.Mathlib.Omega.{arith}
use borrow.Author.Rules.{rules}
use lib.ListN.{length}
use Rattle.laws.specs.Law64.{won_from}
use Rattle.laws.proofs.Padded.{length_under}
use Rattle.transfer.proofs.Counting.{won_bound, claimed_bound}
use Rattle.transfer.proofs.available.Goals as goal

pub overflow_add-result : goal.overflow_add-result
overflow_add-result c =
    let n : length c.args.ts.answers ≡ 13 = search (rules, length_under) in
    let side = c.args.byte / 4 % 4 % 2 in
    omega (
      arith,
      c.won_from.ensures,
      c.claimed_by.ensures,
      won_bound c.args.ts n side (c.args.byte / 16 - 1),
      claimed_bound c.args.declarer c.args.claim c.args.left side,
      c.ranges.claim,
      c.ranges.left,
    )

pub returns : goal.returns
unfolding won_from
returns c = rw (c.won_from.ensures, c.claimed_by.ensures)
