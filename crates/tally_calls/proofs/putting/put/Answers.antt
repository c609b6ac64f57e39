-- `put` meets its contract, by whether the call is refused. Assumes nothing.
use Rattle.std.proofs.Common.{◌≡◌, refl, length, rules}
use Rattle.laws.specs.Lent.{◌over◌}
use Rattle.tally_calls.specs.Calls.{buffer_left}
use Rattle.tally_calls.proofs.putting.put.Goals as goal

pub returns-in-Ok : goal.returns-in-Ok
unfolding buffer_left ◌over◌
returns-in-Ok o c =
    let n : length c.in-Ok.bytes ≡ o.row.N = search rules in
    record { number = rw c.in-Ok.is refl; left = rw (c.in-Ok.is, n, c.copy_from_slice.ensures.after) }

pub returns-in-Err : goal.returns-in-Err
unfolding buffer_left
returns-in-Err _ c = record { number = rw c.in-Err.is c.from.ensures; left = rw c.in-Err.is refl }
