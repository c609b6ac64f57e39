-- `position::table::Table::found_after` meets its contract. Assumes nothing.
use Rattle.position.proofs.Marking.{found_failure, found_none}
use Rattle.position.proofs.table.Table.found_after.Goals as goal

pub returns-then-fails : goal.returns-then-fails
returns-then-fails c =
    found_failure _ _ c.is_none-leads.result c.turn_now-t.ensures c.obeys-revoke.ensures c.excused-free.ensures c.is_none-leads.ensures
    c.with_revoke-found.ensures c.with_lead-found.ensures
    c.fails.ensures c.if-fails.true c.entry.ensures c.with_failure.ensures

pub returns : goal.returns
returns c =
    found_none _ _ c.is_none-leads.result c.turn_now-t.ensures c.obeys-revoke.ensures c.excused-free.ensures c.is_none-leads.ensures c.with_revoke-found.ensures
    c.with_lead-found.ensures
    c.fails.ensures c.if-fails.false
