-- `position::table::Table::choice_verdict` meets its contract. Assumes nothing.
use Rattle.position.specs.Table.{choice_in}
use Rattle.position.proofs.table.Table.choice_verdict.Goals as goal

pub returns-then-is_open : goal.returns-then-is_open
unfolding choice_in
returns-then-is_open c = rw (← c.defender_leads.ensures, c.if-defender_leads.true, ← c.partner_word-partner.ensures, ← c.is_open.ensures, c.if-is_open.true)

pub returns-then-defender_leads : goal.returns-then-defender_leads
unfolding choice_in
returns-then-defender_leads c = rw (← c.defender_leads.ensures, c.if-defender_leads.true, ← c.partner_word-partner.ensures, ← c.is_open.ensures, c.if-is_open.false)

pub returns : goal.returns
unfolding choice_in
returns c = rw (← c.defender_leads.ensures, c.if-defender_leads.false)
