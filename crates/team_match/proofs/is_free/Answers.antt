-- `team_match::is_free` meets its contract. Assumes nothing.
use Rattle.std.proofs.Common.{arith}
use borrow.Author.Tests.{lt-leb, le-leb}
use Rattle.laws.specs.TeamMatch.{is_free}
use Rattle.team_match.specs.Matches.{boards_in}
use Rattle.team_match.proofs.Boards.{used-place}
use Rattle.team_match.proofs.is_free.Goals as goal

pub returns-in-1-to-127 : goal.returns-in-1-to-127
unfolding is_free boards_in
returns-in-1-to-127 c =
    let b = c.args.board in
    rw (le-leb 1 b (omega arith), le-leb b 127 (omega arith), used-place, c.from.ensures)

pub returns-in_default : goal.returns-in_default
unfolding is_free
returns-in_default c = let b = c.args.board in rw (lt-leb 1 b (omega arith))

pub returns-in_default-2 : goal.returns-in_default-2
unfolding is_free
returns-in_default-2 c = let b = c.args.board in rw (le-leb 1 b (omega arith), lt-leb b 127 (omega arith))
