-- `nine` meets its contract: the bytes of the number behind the first. Assumes nothing.
use native.Mathlib.Nat.{div-one}
use Rattle.laws.specs.Record.{bytes_of}
use Rattle.tally_calls.proofs.putting.nine.Goals as goal

pub returns : goal.returns
unfolding bytes_of
returns c = rw (c.copy_from_slice.ensures.after, c.to_be_bytes.ensures, div-one)
