-- `undertrick_value` meets its contract. Assumes nothing.
use native.Mathlib.Omega.{arith}
use Rattle.laws.specs.Law77.{undertrick_value}
use Rattle.law77.proofs.Points.{doubled_le}
use Rattle.law77.specs.Scoring.{stake_of}
use Rattle.law77.proofs.law77.undertrick_value.Goals as goal

pub overflow_mul-doubled : goal.overflow_mul-doubled
overflow_mul-doubled c =
    record {
      fits = omega
          (arith, c.doubled_undertrick-doubled.ensures, doubled_le (stake_of c.args.s) c.args.k);
    }

pub returns : goal.returns
unfolding undertrick_value
returns c = simp (c.by_doubling.ensures, c.doubled_undertrick-doubled.ensures, c.by_vulnerability-undoubled.ensures)
