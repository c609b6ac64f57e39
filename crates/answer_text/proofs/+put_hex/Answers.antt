-- `answer_text::put_hex` meets its contract. Assumes nothing.
use Rattle.answer_text.proofs.Answering.{hex_none, hex_more}
use Rattle.text.proofs.Puts.{then}
use Rattle.answer_text.proofs.+put_hex.Goals as goal

pub returns-then-digits-eq0 : goal.returns-then-digits-eq0
returns-then-digits-eq0 t c = rw (hex_none _ _ c.if-digits-eq0.true) c.put_bytes.ensures

pub returns : goal.returns
returns t c =
    rw (hex_more _ _ c.if-digits-eq0.false) (then c.put_hex-next.ensures (rw c.hex_digit-last.ensures at c.put_byte.ensures))
