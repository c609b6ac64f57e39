-- `text::lend` meets its contract. Assumes nothing.
use Rattle.text.proofs.Puts.{too_short, copied}
use Rattle.text.proofs.lend.Goals as goal

pub returns-then-out-n : goal.returns-then-out-n
returns-then-out-n c =
    let s = too_short _ _ c.if-out-n.true in
    record { answer = s.0; bytes = s.1 }

pub returns : goal.returns
returns c =
    let s = copied c.args.text.now c.args.out.now c.if-out-n.false in
    record { answer = s.0; bytes = rw c.copy_from_slice.ensures.after s.1 }
