-- `write` meets its contract: a law of Lines for each way out. Assumes nothing.
use Rattle.best_text.proofs.Lines.{few, as_tricks, as_refusal}
use Rattle.best_text.proofs.write.Goals as goal

pub write_tricks-requires : goal.write_tricks-requires
write_tricks-requires c = few c.args.bytes.now c.in-Ok.ensures

pub returns-in-Ok : goal.returns-in-Ok
returns-in-Ok c =
    let e = as_tricks c.args.bytes.now c.in-Ok.ensures in
    record { answer = rw e c.write_tricks.ensures.answer; bytes = rw e c.write_tricks.ensures.bytes }

pub returns-in-Err : goal.returns-in-Err
returns-in-Err c =
    let e = as_refusal c.args.bytes.now c.in-Err.ensures in
    record { answer = rw (e, ← c.number.ensures) c.write_pair.ensures.answer; bytes = rw (e, ← c.number.ensures) c.write_pair.ensures.bytes }
