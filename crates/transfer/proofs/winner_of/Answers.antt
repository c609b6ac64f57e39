-- `transfer::winner_of` meets its contract. Assumes nothing.
use mathlib.Core.Path.{◌≡◌, sym}
use native.Mathlib.Omega.{arith}
use borrow.Author.Rules.{rules}
use lib.ListN.{length}
use Rattle.laws.proofs.Padded.{length_under}
use Rattle.transfer.proofs.Lists.{winner_at, no_winner}
use Rattle.transfer.proofs.winner_of.Goals as goal

pub returns-then-at-min : goal.returns-then-at-min
returns-then-at-min c =
    let ts = c.args.ts in
    let n : length ts.answers ≡ 13 = search (rules, length_under) in
    let e = c.saturating_sub-at.ensures in
    let h = c.min.ensures in
    rw (sym e) (winner_at ts n c.saturating_sub-at.result (omega arith))

pub returns : goal.returns
returns c =
    let ts = c.args.ts in
    let n : length ts.answers ≡ 13 = search (rules, length_under) in
    let e = c.saturating_sub-at.ensures in
    let h = c.min.ensures in
    rw (sym e) (no_winner ts n c.saturating_sub-at.result (omega arith))
