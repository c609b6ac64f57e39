-- `position::table::Table::play` meets its contract. Assumes nothing.
use mathlib.Core.Path.{◌∙◌}
use Rattle.position.specs.Table.{after_play}
use Rattle.position.proofs.table.Table.play.Goals as goal

pub returns : goal.returns
unfolding after_play
returns c = c.with_play.ensures ∙ rw c.play.ensures
