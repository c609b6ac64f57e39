-- `made` meets its contract: each item is small, so the sums fit. Assumes nothing.
use native.Mathlib.Omega.{arith}
use Rattle.law77.proofs.Points.{part_le, game-le, slam-le, insult_le, points-le, overtricks-le}
use Rattle.law77.specs.Scoring.{stake_of, made_points}
use borrow.Author.Rules.{rules}
use Rattle.law77.proofs.law77.made.Goals as goal

pub overflow_add-premiums : goal.overflow_add-premiums
overflow_add-premiums c =
    let s = stake_of c.args.s in
    omega (arith, c.part_score_points.ensures, c.game_points.ensures, part_le s, game-le s)

pub overflow_add-premiums-2 : goal.overflow_add-premiums-2
overflow_add-premiums-2 c =
    let s = stake_of c.args.s in
    omega (arith, c.part_score_points.ensures, c.game_points.ensures, c.slam_points.ensures, part_le s, game-le s, slam-le s)

pub overflow_add-premiums-3 : goal.overflow_add-premiums-3
overflow_add-premiums-3 c =
    let s = stake_of c.args.s in
    omega (
      arith,
      c.part_score_points.ensures,
      c.game_points.ensures,
      c.slam_points.ensures,
      c.doubling_points.ensures,
      part_le s,
      game-le s,
      slam-le s,
      insult_le s,
    )

pub overflow_add-result : goal.overflow_add-result
overflow_add-result c =
    let s = stake_of c.args.s in
    let over = overtricks-le s c.args.over (search rules) in
    record { fits = omega (arith, c.trick_points.ensures, points-le s (search rules), c.overtricks.ensures, over) }

pub overflow_add-result-2 : goal.overflow_add-result-2
overflow_add-result-2 c =
    let s = stake_of c.args.s in
    let over = overtricks-le s c.args.over (search rules) in
    record {
      fits = omega (
        arith,
        c.trick_points.ensures,
        points-le s (search rules),
        c.overtricks.ensures,
        over,
        c.part_score_points.ensures,
        c.game_points.ensures,
        c.slam_points.ensures,
        c.doubling_points.ensures,
        part_le s,
        game-le s,
        slam-le s,
        insult_le s,
      );
    }

pub returns : goal.returns
unfolding made_points
returns c =
    rw (
      c.overtricks.ensures,
      c.trick_points.ensures,
      c.doubling_points.ensures,
      c.slam_points.ensures,
      c.game_points.ensures,
      c.part_score_points.ensures,
    )
