-- `narrow_board` meets its contract, by its test. Assumes nothing.
use borrow.Author.Tests.{lt-ltb, le-ltb}
use Rattle.tally_calls.specs.Narrowed.{narrow_board}
use Rattle.tally_calls.proofs.narrow_board.Goals as goal

pub returns-then-board-gt127 : goal.returns-then-board-gt127
unfolding narrow_board
returns-then-board-gt127 c = rw (lt-ltb 127 c.args.board c.if-board-gt127.true)

pub returns : goal.returns
unfolding narrow_board
returns c = rw (le-ltb 127 c.args.board c.if-board-gt127.false)
