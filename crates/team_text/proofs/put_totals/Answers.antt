-- `team_text::put_totals` meets its contract. Assumes nothing.
use Rattle.text.proofs.Puts.{then}
use Rattle.team_text.proofs.put_totals.Goals as goal

pub returns : goal.returns
returns c = then (then (then (then c.put_bytes-a.ensures c.put_imps-b.ensures) c.put_byte-c.ensures) c.put_imps-d.ensures) c.put_byte.ensures
