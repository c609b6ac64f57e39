-- `trick_points` meets its contract. Assumes nothing.
use Prim.Native.Nat.{◌<◌}
use native.Mathlib.Omega.{arith}
use Rattle.laws.specs.Law77.{trick_points}
use Rattle.law77.proofs.Points.{first-le, later-le, points-le}
use Rattle.law77.specs.Scoring.{stake_of}
use borrow.Author.Rules.{rules}
use Rattle.law77.proofs.law77.trick_points.Goals as goal

pub overflow_mul-odd_tricks : goal.overflow_mul-odd_tricks
overflow_mul-odd_tricks c = let s =
    c.args.s in
    let l : s.level < 256 = search rules in
    record { fits = rw (c.saturating_sub.ensures, c.trick_value.ensures) (omega (arith, later-le s.level s.strain l)) }

pub overflow_add-odd_tricks : goal.overflow_add-odd_tricks
overflow_add-odd_tricks c = let s =
    c.args.s in
    let l : s.level < 256 = search rules in
    record {
      fits = rw (c.saturating_sub.ensures, c.trick_value.ensures, c.first_trick_value.ensures)
          (omega (arith, later-le s.level s.strain l, first-le s.strain));
    }

pub overflow_mul-result : goal.overflow_mul-result
unfolding trick_points
overflow_mul-result c = let s =
    c.args.s in
    let l : s.level < 256 = search rules in
    record {
      fits = rw (
        c.saturating_sub.ensures,
        c.trick_value.ensures,
        c.first_trick_value.ensures,
        c.by_doubling.ensures,
      ) (omega (arith, points-le (stake_of s) l));
    }

pub returns : goal.returns
unfolding trick_points
returns c =
    rw (
      c.saturating_sub.ensures,
      c.trick_value.ensures,
      c.first_trick_value.ensures,
      c.by_doubling.ensures,
    )
