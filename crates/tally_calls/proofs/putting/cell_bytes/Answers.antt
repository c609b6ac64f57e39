-- `cell_bytes` meets its contract, by what the cell is. Assumes nothing.
use Rattle.laws.specs.Record.{bytes_of}
use Rattle.tally_calls.specs.Calls.{cell_bytes}
use Rattle.tally_calls.proofs.putting.cell_bytes.Goals as goal

pub returns-in-Played : goal.returns-in-Played
unfolding cell_bytes
returns-in-Played c = rw (c.in-Played.is, ← c.bits_of.ensures) c.nine.ensures

pub returns-in-Awarded : goal.returns-in-Awarded
unfolding cell_bytes
returns-in-Awarded c = rw (c.in-Awarded.is, ← c.bits_of-in-Awarded.ensures) c.nine-in-Awarded.ensures

pub returns-in-Alone : goal.returns-in-Alone
unfolding cell_bytes bytes_of
returns-in-Alone c = rw c.in-Alone.is c.nine-in-Alone.ensures
