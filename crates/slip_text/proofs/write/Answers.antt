-- `write` meets its contract: a law of Slips for each way out. Assumes nothing.
use Rattle.slip_text.proofs.Slips.{slip-refused, slip_granted, granted_short}
use Rattle.slip_text.proofs.write.Goals as goal

pub write_items-requires : goal.write_items-requires
write_items-requires c = granted_short c.args.bytes.now c.in-Ok.ensures

pub returns-in-Err : goal.returns-in-Err
returns-in-Err c =
    let e = slip-refused c.args.bytes.now c.in-Err.ensures in
    record { answer = rw (e, ← c.number.ensures) c.write_pair.ensures.answer; bytes = rw (e, ← c.number.ensures) c.write_pair.ensures.bytes }

pub returns-in-Ok : goal.returns-in-Ok
returns-in-Ok c =
    let e = slip_granted c.args.bytes.now c.in-Ok.ensures in
    record { answer = rw e c.write_items.ensures.answer; bytes = rw e c.write_items.ensures.bytes }
