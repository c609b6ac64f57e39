-- `tally::fresh` meets its contract, by its tests of the board. Assumes nothing.
use Rattle.std.proofs.Common.{ap, arith}
use Rattle.laws.specs.Tally.{leaves}
use Rattle.tally.specs.Tallies.{tally_of, accepting, answer_of, fresh_of}
use Rattle.tally.proofs.Refusing.{board-zero, board-over, board-good}
use Rattle.tally.proofs.fresh.Goals.{in_default-via-then-board-lt1, in_default-via-else-board-lt1+else-board-lt128}
use Rattle.tally.proofs.fresh.Goals as goal

pub returns-in-1-to-127 : goal.returns-in-1-to-127
unfolding fresh_of answer_of leaves tally_of
returns-in-1-to-127 c = rw (board-good c.args.board (λ z. omega arith) (omega arith)) (ap accepting c.empty.ensures)

pub returns-in_default : goal.returns-in_default
unfolding fresh_of answer_of leaves
returns-in_default c =
    elim c.in_default.branch [
      | in_default-via-then-board-lt1 w ↦ rw (c.at.ensures, board-zero c.args.board (omega arith))
      | in_default-via-else-board-lt1+else-board-lt128 w ↦ rw (c.at.ensures, board-over c.args.board (λ z. omega arith) (omega arith))
    ]
