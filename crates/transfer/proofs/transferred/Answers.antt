-- `transfer::transferred` meets its contract. Assumes nothing.
use mathlib.Core.Path.{sym, ◌∙◌}
use Rattle.laws.specs.Law64.{transferred_tricks}
use Rattle.transfer.specs.Inputs.{transferred_in, total_from, earlier}
use Rattle.transfer.proofs.transferred.Goals as goal

pub returns-then-both_revoked : goal.returns-then-both_revoked
unfolding transferred_in transferred_tricks
returns-then-both_revoked c = rw (sym c.both_revoked.ensures ∙ c.if-both_revoked.true)

pub returns : goal.returns
unfolding transferred_in transferred_tricks total_from earlier
returns c = rw (sym c.both_revoked.ensures ∙ c.if-both_revoked.false) c.total.ensures
