-- `team_text::put_gained` meets its contract. Assumes nothing.
use Rattle.text.proofs.Puts.{then}
use Rattle.team_text.proofs.put_gained.Goals as goal

pub returns : goal.returns
returns c = then c.put_imps-end.ensures c.put_byte.ensures
