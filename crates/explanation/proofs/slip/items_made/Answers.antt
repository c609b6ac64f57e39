-- `items_made` meets its contract: Law 77's items of a contract that was made. Assumes nothing.
use Prim.Native.Nat.{◌+◌}
use native.Mathlib.Omega.{arith}
use mathlib.Core.Path.{refl}
use borrow.Author.Tests.{leb-true}
use Rattle.laws.specs.Law77.{is_made, overtrick_points}
use Rattle.laws.specs.Slip.{TRICKS, OVERTRICKS, UNDERTRICKS, PARTSCORE, GAME, SLAM, DOUBLING}
use Rattle.law77.specs.Scoring.{stake_of}
use Rattle.explanation.specs.Explained.{items_for}
use Rattle.explanation.proofs.Granting.{eight, all_zero, sum_told, made_small, made_told, made_none}
use Rattle.explanation.proofs.slip.items_made.Goals as goal

pub overflow_sub-over : goal.overflow_sub-over
unfolding is_made
overflow_sub-over c = let a = c.args in omega (arith, leb-true (a.p.stake.level + 6) a.p.tricks c.requires)

pub gained-requires : goal.gained-requires
gained-requires c = let p = c.args.p in rw c.trick_points.ensures (made_small p.declarer (stake_of p.stake) p.tricks p.possible c.requires TRICKS)

pub gained-requires-2 : goal.gained-requires-2
unfolding overtrick_points
gained-requires-2 c = let p = c.args.p in rw c.overtricks.ensures (made_small p.declarer (stake_of p.stake) p.tricks p.possible c.requires OVERTRICKS)

pub gained-requires-3 : goal.gained-requires-3
gained-requires-3 c = let p = c.args.p in rw c.part_score_points.ensures (made_small p.declarer (stake_of p.stake) p.tricks p.possible c.requires PARTSCORE)

pub gained-requires-4 : goal.gained-requires-4
gained-requires-4 c = let p = c.args.p in rw c.game_points.ensures (made_small p.declarer (stake_of p.stake) p.tricks p.possible c.requires GAME)

pub gained-requires-5 : goal.gained-requires-5
gained-requires-5 c = let p = c.args.p in rw c.slam_points.ensures (made_small p.declarer (stake_of p.stake) p.tricks p.possible c.requires SLAM)

pub gained-requires-6 : goal.gained-requires-6
gained-requires-6 c = let p = c.args.p in rw c.doubling_points.ensures (made_small p.declarer (stake_of p.stake) p.tricks p.possible c.requires DOUBLING)

pub returns : goal.returns
unfolding items_for overtrick_points
returns c =
    let p = c.args.p in
    let d = p.declarer in
    let s = stake_of p.stake in
    let t = p.tricks in
    let told = made_told d s t p.possible c.requires in
    rw (all_zero c.default.ensures) (eight (told TRICKS _ _ c.trick_points.ensures c.gained.ensures)
    (told OVERTRICKS _ _ c.overtricks.ensures c.gained-2.ensures)
    (made_none d s t p.possible c.requires UNDERTRICKS refl) (told PARTSCORE _ _ c.part_score_points.ensures c.gained-3.ensures)
    (told GAME _ _ c.game_points.ensures c.gained-4.ensures) (told SLAM _ _ c.slam_points.ensures c.gained-5.ensures)
    (told DOUBLING _ _ c.doubling_points.ensures c.gained-6.ensures) (sum_told d s t p.possible c.score.ensures))
