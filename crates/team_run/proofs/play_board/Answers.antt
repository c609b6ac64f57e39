-- `team_run::play_board` meets its contract. Assumes nothing.
use mathlib.Core.Path.{◌≡◌}
use borrow.Author.Rules.{rules}
use mir.Syntax.{w16}
use mir.Val.{SFits}
use Rattle.team_script.specs.declared.Board.{Board}
use mir.Facts.{to_z-of_z}
use Rattle.laws.specs.TeamMatch.{Call}
use Rattle.score.specs.Units.{imp_answer}
use Rattle.team_match.specs.Matches.{answer_on, after_on}
use Rattle.team_run.specs.Runs.{done_with}
use Rattle.team_run.proofs.play_board.Goals as goal

-- the board that is played
made : Board → Call
made b = record { board = b.number; first = b.first; second = b.second }

pub returns : goal.returns
unfolding done_with made
returns c =
    let b = c.args.board in
    let f : SFits w16 b.first = search rules in
    let g : SFits w16 b.second = search rules in
    let state : c.play-played.result.state ≡ after_on c.args.run.state (made b) = rw (to_z-of_z f, to_z-of_z g) at c.play-played.ensures.state in
    let answer : imp_answer c.play-played.result.answer ≡ answer_on c.args.run.state (made b) = rw (to_z-of_z f, to_z-of_z g) at c.play-played.ensures.answer in
    rw (c.next_line.ensures, state, answer)
