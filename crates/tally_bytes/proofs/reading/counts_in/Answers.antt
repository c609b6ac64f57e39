-- `counts_in` meets its contract: the bytes behind the scores are copied. Assumes nothing.
use Rattle.std.proofs.Common.{◌≡◌, ◌∙◌, length, drop, length-drop, arith, rules}
use lib.Seq.{take_all}
use Rattle.tally_bytes.proofs.reading.counts_in.Goals as goal

pub returns : goal.returns
returns c =
    let l = c.args.bytes.now in
    let n : length l ≡ 398 = search rules in
    c.copy_from_slice.ensures.after ∙ take_all 128 (drop 270 l) (rw length-drop (omega arith))
