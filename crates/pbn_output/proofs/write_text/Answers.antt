-- `write_text` meets its contract: a law of Printed for each way out. Assumes nothing.
use Rattle.std.proofs.Common.{rules, ◌≡◌, sym, length, arith}
use Rattle.std.proofs.lemmas.List.{length-take-le}
use Rattle.pbn_output.proofs.Printed.{as_refusal, as_record, record_low}
use Rattle.pbn_output.proofs.write_text.Goals as goal

pub returns-in-Err : goal.returns-in-Err
returns-in-Err c =
    let e = as_refusal c.args.text.now c.args.table c.in-Err.ensures.answer in
    record { answer = rw (e, ← c.number.ensures) c.write_pair.ensures.answer; bytes = rw (e, ← c.number.ensures) c.write_pair.ensures.bytes }

pub slice_bounds-record-end : goal.slice_bounds-record-end
slice_bounds-record-end c =
    let n : length c.read_pbn.new.out ≡ 505 = search rules in
    omega (arith, n, record_low c.args.text.now c.args.table c.in-Ok.ensures.answer)

pub slice_bounds-lend-end : goal.slice_bounds-lend-end
slice_bounds-lend-end c =
    let n : length c.read_pbn.new.out ≡ 505 = search rules in
    sym (length-take-le _ _ (omega (arith, n, record_low c.args.text.now c.args.table c.in-Ok.ensures.answer)))

pub returns-in-Ok : goal.returns-in-Ok
returns-in-Ok c =
    let e = as_record c.args.text.now c.args.table c.in-Ok.ensures.answer _ _ c.in-Ok.ensures.left in
    record { answer = rw e c.lend.ensures.answer; bytes = rw e c.lend.ensures.bytes }
