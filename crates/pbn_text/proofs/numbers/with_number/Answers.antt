-- `pbn_text::numbers::with_number` meets its contract. Assumes nothing.
use Rattle.pbn_text.proofs.KeptNumbers.{full, room}
use Rattle.pbn_text.proofs.numbers.with_number.Goals as goal

pub returns-then-kept-ge511 : goal.returns-then-kept-ge511
returns-then-kept-ge511 c l e = full _ l e _ c.if-kept-ge511.true

pub returns : goal.returns
returns c l e = room _ l e _ c.if-kept-ge511.false
