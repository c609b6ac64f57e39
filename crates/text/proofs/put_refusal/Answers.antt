-- `text::put_refusal` meets its contract. Assumes nothing.
use Rattle.laws.specs.Sheet.{refusal}
use Rattle.text.proofs.Puts.{then}
use Rattle.text.proofs.put_refusal.Goals as goal

pub returns : goal.returns
unfolding refusal
returns c =
    then (then c.put_bytes-number.ensures
    c.put_decimal-end.ensures) c.put_bytes.ensures
