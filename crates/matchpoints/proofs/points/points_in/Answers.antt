-- `matchpoints::points::points_in` meets its contract: one law of `Comparing` for each way out. Assumes nothing.
use native.Mathlib.Omega.{arith}
use mir.Facts.{to_z-of_z}
use Rattle.matchpoints.proofs.Comparing.{points-absent, some_results, ns-fits, points-found}
use Rattle.matchpoints.proofs.points.points_in.Goals as goal

pub standing_of-s-requires : goal.standing_of-s-requires
standing_of-s-requires c = c.requires.0

pub returns-then-s-eq0 : goal.returns-then-s-eq0
returns-then-s-eq0 c =
    rw c.at.ensures
    (points-absent _ _ c.requires.0 c.requires.1 _ (rw (to_z-of_z c.ranges.score) at c.standing_of-s.ensures) c.if-s-eq0.true)

pub overflow_sub-ew : goal.overflow_sub-ew
overflow_sub-ew c = omega (arith, some_results _ _ c.requires.0 c.requires.1 _ (rw (to_z-of_z c.ranges.score) at c.standing_of-s.ensures) c.if-s-eq0.false, c.from-3.ensures)

pub overflow_sub-ew-2 : goal.overflow_sub-ew-2
overflow_sub-ew-2 c =
    omega (
      arith,
      ns-fits _ _ c.requires.0 c.requires.1 _ (rw (to_z-of_z c.ranges.score) at c.standing_of-s.ensures) c.if-s-eq0.false,
      c.from-3.ensures,
      c.from.ensures,
      c.from-2.ensures,
    )

pub returns : goal.returns
returns c =
    points-found _ _ c.requires.0 c.requires.1 _ (rw (to_z-of_z c.ranges.score) at c.standing_of-s.ensures) c.if-s-eq0.false _ _ _ c.from.ensures c.from-2.ensures
    c.from-3.ensures
