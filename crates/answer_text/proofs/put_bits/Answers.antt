-- `answer_text::put_bits` meets its contract. Assumes nothing.
use Rattle.text.proofs.Puts.{then}
use Rattle.answer_text.proofs.put_bits.Goals as goal

pub returns : goal.returns
returns c = then (then c.put_bytes-first.ensures c.put_hex-end.ensures) c.put_byte.ensures
