-- `put_counts` meets its contract: the counts are copied over the last bytes. Assumes nothing.
use native.Mathlib.Omega.{arith}
use borrow.Author.Rules.{rules}
use Rattle.tally_bytes.proofs.Rows.{part_stored}
use Rattle.tally_bytes.proofs.writing.put_counts.Goals as goal

pub returns : goal.returns
returns c =
    let a = c.args in
    rw c.copy_from_slice.ensures.after (part_stored a.out.now a.counts 270 128 (search rules) (omega arith))
