-- `team_text::put_board` meets its contract. Assumes nothing.
use Prim.Native.Nat.{◌<◌}
use mir.Syntax.{w32}
use mir.Val.{SFits}
use Rattle.team_text.specs.Team.{board_text}
use Rattle.team_text.proofs.Teams.{refused-short, imps-short}
use borrow.Author.Rules.{rules}
use Rattle.team_text.proofs.put_board.Goals as goal

pub returns-in-Err : goal.returns-in-Err
unfolding board_text
returns-in-Err c =
    let b : c.number.result < 256 = search rules in
    rw (c.in-Err.is, ← c.number.ensures) (c.put_refused.ensures, refused-short c.number.result b)

pub returns-in-Ok : goal.returns-in-Ok
unfolding board_text
returns-in-Ok c =
    let f : SFits w32 c.in-Ok.imps.0 = search rules in
    rw c.in-Ok.is (c.put_gained.ensures, imps-short c.in-Ok.imps.0 f)
