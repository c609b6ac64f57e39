-- `check_heading` meets its contract: a law of Checks for each way out. Assumes nothing.
use Rattle.contents.proofs.Checks.{board-over, board_0, table-over, table_0, heading_passes}
use Rattle.contents.proofs.sections.check_heading.Goals as goal

pub returns-then-board-gt127 : goal.returns-then-board-gt127
returns-then-board-gt127 c = rw c.at.ensures (board-over _ _ c.if-board-gt127.true)

pub returns-then-board-eq0 : goal.returns-then-board-eq0
returns-then-board-eq0 c = rw c.at-then-board-eq0.ensures (board_0 _ _ c.if-board-gt127.false c.if-board-eq0.true)

pub returns-then-table-gt511 : goal.returns-then-table-gt511
returns-then-table-gt511 c = rw c.at-then-table-gt511.ensures (table-over _ _ c.if-board-gt127.false c.if-board-eq0.false c.if-table-gt511.true)

pub returns-then-table-eq0 : goal.returns-then-table-eq0
returns-then-table-eq0 c =
    rw c.at-then-table-eq0.ensures (table_0 _ _ c.if-board-gt127.false c.if-board-eq0.false c.if-table-gt511.false c.if-table-eq0.true)

pub returns : goal.returns
returns c = heading_passes _ _ c.if-board-gt127.false c.if-board-eq0.false c.if-table-gt511.false c.if-table-eq0.false
