-- `position::table::Table::with_play` meets its contract. Assumes nothing.
use borrow.Author.Tests.{eq-eqb, ne_eqb, le-leb, lt-leb}
use Rattle.position.specs.Table.{keeps_lead}
use Rattle.position.proofs.table.Table.with_play.Goals as goal

pub returns-then-pen-eq0 : goal.returns-then-pen-eq0
returns-then-pen-eq0 c = rw (eq-eqb _ _ c.if-pen-eq0.true)

pub returns-then-card-ge52 : goal.returns-then-card-ge52
returns-then-card-ge52 c = rw (ne_eqb _ _ c.if-pen-eq0.false, le-leb 52 _ c.if-card-ge52.true)

pub returns : goal.returns
unfolding keeps_lead
returns c =
    let f = c.found_after-found.ensures in
    rw (ne_eqb _ _ c.if-pen-eq0.false, lt-leb 52 _ c.if-card-ge52.false, c.after_card-next.ensures, f)
