-- `write` meets its contract: a law of Printed for each way out. Assumes nothing.
use Prim.Native.Nat.{◌+◌, ◌≤◌}
use native.Mathlib.Omega.{arith}
use mathlib.Core.Path.{refl, sym}
use lib.ListN.{length}
use lib.Seq.{length-take-le}
use Rattle.decimal.proofs.Scores.{rest-is}
use Rattle.pbn_output.proofs.Printed.{held-not, no_text, end_within, of-text}
use Rattle.pbn_output.proofs.write.Goals as goal

pub returns-then-input-gt65536 : goal.returns-then-input-gt65536
returns-then-input-gt65536 c = record { answer = rw (held-not c.args.input.now c.if-input-gt65536.true) c.lend.ensures.answer; bytes = rw (held-not c.args.input.now c.if-input-gt65536.true) c.lend.ensures.bytes }

pub returns-then-end-input : goal.returns-then-end-input
returns-then-end-input c =
    let e = no_text c.args.input.now c.if-input-gt65536.false _ c.line_end-end.ensures c.if-end-input.true in
    record { answer = rw e (rw c.number.ensures at c.write_pair.ensures.answer); bytes = rw e (rw c.number.ensures at c.write_pair.ensures.bytes) }

pub slice_bounds-table_on-end : goal.slice_bounds-table_on-end
slice_bounds-table_on-end c =
    let within : c.line_end-end.result ≤ length c.args.input.now = omega (arith, (end_within c.args.input.now c.if-input-gt65536.false _ c.line_end-end.ensures c.if-end-input.false)) in
    sym (length-take-le _ _ within)

pub overflow_add-start : goal.overflow_add-start
overflow_add-start c = omega (arith, (end_within c.args.input.now c.if-input-gt65536.false _ c.line_end-end.ensures c.if-end-input.false), c.if-input-gt65536.false)

pub slice_bounds-write_text-count : goal.slice_bounds-write_text-count
slice_bounds-write_text-count c = omega (arith, (end_within c.args.input.now c.if-input-gt65536.false _ c.line_end-end.ensures c.if-end-input.false))

pub slice_bounds-write_text-start : goal.slice_bounds-write_text-start
slice_bounds-write_text-start c = omega (arith, (end_within c.args.input.now c.if-input-gt65536.false _ c.line_end-end.ensures c.if-end-input.false))

pub returns : goal.returns
returns c =
    let s = c.args.input.now in
    record {
      answer = rw (of-text s c.if-input-gt65536.false _ c.line_end-end.ensures c.if-end-input.false _ _ refl (rest-is (c.line_end-end.result + 1) s) _ c.table_on-table.ensures)
          c.write_text.ensures.answer;
      bytes = rw (of-text s c.if-input-gt65536.false _ c.line_end-end.ensures c.if-end-input.false _ _ refl (rest-is (c.line_end-end.result + 1) s) _ c.table_on-table.ensures)
          c.write_text.ensures.bytes;
    }
