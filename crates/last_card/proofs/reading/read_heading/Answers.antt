-- `read_heading` meets its contract: a law of Sections for each way out. Assumes nothing.
use Rattle.std.proofs.Common.{arith}
use Rattle.std.proofs.lemmas.Result.{err_from_is_err_and}
use Rattle.field.proofs.ThreeBytes.{given_lt, given-reads, refused_stops}
use Rattle.last_card.proofs.Sections.{heading-short, table-short, no_board, no_table_lem, heading-read}
use Rattle.last_card.proofs.reading.read_heading.Goals as goal

pub returns-in_err-board : goal.returns-in_err-board
returns-in_err-board c =
    let b = c.args.bytes.now in
    let p = err_from_is_err_and c.from_residual.result c.from_residual.ensures.1 in
    rw (p.1, p.2) (heading-short b (refused_stops b 0 7 (omega arith) c.in_err-board.ensures))

pub returns-in_err-table : goal.returns-in_err-table
returns-in_err-table c =
    let b = c.args.bytes.now in
    let p = err_from_is_err_and c.from_residual-in_err-table.result c.from_residual-in_err-table.ensures.1 in
    rw (p.1, p.2)
    (table-short b _ (given-reads b 0 7 c.in_ok-board.ensures) (refused_stops b 7 9 (omega arith) c.in_err-table.ensures))

pub returns-then-board-eq0 : goal.returns-then-board-eq0
returns-then-board-eq0 c =
    let b = c.args.bytes.now in
    rw c.at.ensures (no_board b _ (given-reads b 0 7 c.in_ok-board.ensures) _ (given-reads b 7 9 c.in_ok-table.ensures) c.if-board-eq0.true)

pub returns-then-table-eq0 : goal.returns-then-table-eq0
returns-then-table-eq0 c =
    let b = c.args.bytes.now in
    rw c.at-then-table-eq0.ensures
    (no_table_lem b _ (given-reads b 0 7 c.in_ok-board.ensures) _ (given-reads b 7 9 c.in_ok-table.ensures) c.if-board-eq0.false c.if-table-eq0.true)

pub overflow_cast-result : goal.overflow_cast-result
overflow_cast-result c = omega (arith, given_lt c.args.bytes.now 0 7 c.in_ok-board.ensures)

pub returns : goal.returns
returns c =
    let b = c.args.bytes.now in
    heading-read b _ (given-reads b 0 7 c.in_ok-board.ensures) _ (given-reads b 7 9 c.in_ok-table.ensures) c.if-board-eq0.false c.if-table-eq0.false
