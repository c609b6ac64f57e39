-- `items_down` meets its contract: Law 77's items of a contract that went down. Assumes nothing.
use Prim.Native.Nat.{◌+◌}
use native.Mathlib.Omega.{arith}
use mathlib.Core.Path.{refl}
use borrow.Author.Tests.{leb-false}
use Rattle.laws.specs.Law77.{is_made, undertrick_points}
use Rattle.laws.specs.Slip.{TRICKS, OVERTRICKS, PARTSCORE, GAME, SLAM, DOUBLING}
use Rattle.law77.specs.Scoring.{stake_of}
use Rattle.explanation.specs.Explained.{items_for}
use Rattle.explanation.proofs.Granting.{eight, all_zero, sum_told, down-small, down-told, down-none}
use Rattle.explanation.proofs.slip.items_down.Goals as goal

pub overflow_sub-down : goal.overflow_sub-down
unfolding is_made
overflow_sub-down c = let a = c.args in omega (arith, leb-false (a.p.stake.level + 6) a.p.tricks c.requires)

pub lost-requires : goal.lost-requires
unfolding undertrick_points
lost-requires c = let p = c.args.p in rw c.undertricks.ensures (down-small p.declarer (stake_of p.stake) p.tricks p.possible c.requires)

pub returns : goal.returns
unfolding items_for undertrick_points
returns c =
    let p = c.args.p in
    let d = p.declarer in
    let s = stake_of p.stake in
    let t = p.tricks in
    let none = down-none d s t p.possible c.requires in
    rw (all_zero c.default.ensures) (eight (none TRICKS refl) (none OVERTRICKS refl)
    (down-told d s t p.possible c.requires c.undertricks.ensures c.lost.ensures)
    (none PARTSCORE refl) (none GAME refl) (none SLAM refl) (none DOUBLING refl) (sum_told d s t p.possible c.score.ensures))
