-- `put_tally` meets its contract, by whether the call is refused. Assumes nothing.
use Rattle.std.proofs.Common.{refl, length, rules}
use borrow.Author.Tests.{ne_eqb, le-ltb}
use Rattle.laws.specs.Refused.{number}
use Rattle.laws.proofs.RefusalNumbers.{number_not_none}
use Rattle.tally_bytes.specs.Written.{tally_left}
use Rattle.tally_calls.specs.Calls.{buffer_left, tallied}
use Rattle.tally_calls.proofs.putting.put_tally.Goals as goal

pub returns-in-Ok : goal.returns-in-Ok
unfolding tallied buffer_left tally_left
returns-in-Ok c =
    let room = le-ltb (length c.args.out.now) 398 (search rules) in
    record { number = rw c.in-Ok.is refl; left = rw c.in-Ok.is (rw room at c.write.ensures) }

pub returns-in-Err : goal.returns-in-Err
unfolding tallied buffer_left
returns-in-Err c =
    let n = ne_eqb (number c.in-Err.refusal.refusal) 0 (number_not_none c.in-Err.refusal.refusal) in
    record { number = rw (c.in-Err.is, n) c.from.ensures; left = rw (c.in-Err.is, n) refl }
