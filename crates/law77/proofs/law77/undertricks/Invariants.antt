-- The loop's invariant: the points of the first k. Assumes nothing.
use Rattle.std.proofs.Common.{◌≡◌}
use Rattle.laws.specs.Law77 as Law
use Rattle.law77.specs.Scoring.{stake_of}
use Rattle.law77.proofs.law77.undertricks.Given as goal

abbrev pub invariant-loop-k : goal.invariant-loop-k
invariant-loop-k l = l.points ≡ Law.undertricks (stake_of l.s) l.k
