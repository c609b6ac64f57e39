-- `judge_slip` meets its contract: a law of Calling for each way out. Assumes nothing.
use Rattle.std.proofs.Common.{arith}
use Rattle.slip_text.specs.Text.{items_text}
use Rattle.slip_text.proofs.Slips.{granted_short}
use Rattle.slip_text.proofs.Calling.{fitted, answers-refused, answers-written, answers-short}
use Rattle.slip_text.proofs.judge_slip.Goals as goal

pub write_items-requires : goal.write_items-requires
write_items-requires c = granted_short c.args.bytes.now c.in-Ok.ensures

pub overflow_cast-result : goal.overflow_cast-result
overflow_cast-result c =
    let short = granted_short c.args.bytes.now c.in-Ok.ensures in
    let f = fitted _ (items_text _) _ c.write_items.ensures.answer c.in-Some.is in
    omega (arith, short, f.1)

pub returns-in-Some : goal.returns-in-Some
returns-in-Some c =
    let s = answers-written c.args.bytes.now c.in-Ok.ensures c.args.text.now _ _ c.write_items.ensures.answer c.write_items.ensures.bytes c.in-Some.is in
    record { number = s.0; left = s.1 }

pub returns-in-None : goal.returns-in-None
returns-in-None c =
    let s = answers-short c.args.bytes.now c.in-Ok.ensures c.args.text.now _ _ c.write_items.ensures.answer c.write_items.ensures.bytes c.in-None.is in
    record { number = rw (c.from.ensures, c.at.ensures) s.0; left = s.1 }

pub returns-in-Err : goal.returns-in-Err
returns-in-Err c =
    let s = answers-refused c.args.bytes.now c.in-Err.ensures c.args.text.now in
    record { number = rw c.from-in-Err.ensures s.0; left = s.1 }
