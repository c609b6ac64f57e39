-- `text::put_decimal` meets its contract. Assumes nothing.
use native.Mathlib.Nat.{mod-eq_of_lt}
use Rattle.text.proofs.Puts.{then}
use Rattle.text.proofs.Printed.{one-digit, more_digits}
use Rattle.text.proofs.+put_decimal.Goals as goal

pub returns-then-n-lt10 : goal.returns-then-n-lt10
returns-then-n-lt10 t c =
    let small = c.if-n-lt10.true in
    rw (one-digit _ small, ← mod-eq_of_lt small) c.put_digit.ensures

pub returns : goal.returns
returns t c =
    rw (more_digits _ c.if-n-lt10.false) (then c.put_decimal-next.ensures c.put_digit-2.ensures)
