-- `position::table::Table::partner_word` meets its contract. Assumes nothing.
use Rattle.position.specs.Table.{partner_word}
use Rattle.position.proofs.Marking.{partner_at}
use Rattle.position.proofs.table.Table.partner_word.Goals as goal

pub returns : goal.returns
unfolding partner_word
returns c = let p = c.args.self.play in partner_at p.dealt p.leader
