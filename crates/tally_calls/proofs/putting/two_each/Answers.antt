-- `two_each` meets its contract: the two lowest bytes of each number. Assumes nothing.
use native.Mathlib.Nat.{div-one}
use Rattle.laws.specs.Record.{bytes_of}
use Rattle.tally_calls.proofs.putting.two_each.Goals as goal

pub returns : goal.returns
unfolding bytes_of
returns c = rw (c.to_be_bytes.ensures, c.to_be_bytes-2.ensures, div-one c.args.ns, div-one c.args.ew)
