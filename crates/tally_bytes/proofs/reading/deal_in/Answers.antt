-- `deal_in` meets its contract: the first i of the row are those of the bytes. Assumes nothing.
use native.Mathlib.Omega.{arith}
use borrow.Author.Rules.{rules}
use mathlib.Core.Path.{◌≡◌, sym, ◌∙◌}
use lib.ListN.{length, length-set}
use lib.Seq.{slice, length-slice}
use Rattle.tally.proofs.InBytes.{length_deal_in}
use Rattle.tally_bytes.proofs.Rows.{filled, all_filled}
use Rattle.tally_bytes.proofs.Places.{holder_at}
use Rattle.tally_bytes.proofs.reading.deal_in.Goals as goal

pub loop-i-preserved : goal.loop-i-preserved
loop-i-preserved c =
    let l = c.loop-i in
    let bytes = c.args.bytes.now in
    let n : length bytes ≡ 398 = search rules in
    let many = length_deal_in (slice 1 14 bytes) in
    let short = length-slice 1 14 bytes (omega arith) in (
      length-set l.row l.i _ ∙ l.invariant.0,
      filled _ l.row l.i _ 0 l.invariant.1 (omega (arith, l.invariant.0)) (omega arith)
          (sym (holder_at bytes l.i n (omega arith))),
    )

pub returns : goal.returns
returns c =
    let l = c.loop-i in
    let bytes = c.args.bytes.now in
    let n : length bytes ≡ 398 = search rules in
    let e : l.i ≡ 52 = omega arith in
    let many = length_deal_in (slice 1 14 bytes) in
    let short = length-slice 1 14 bytes (omega arith) in
    all_filled _ l.row 52 l.invariant.0 (omega arith) (rw e at l.invariant.1)
