-- `team_script::with_scores` meets its contract. Assumes nothing.
use mathlib.Core.Path.{ap, ◌∙◌}
use borrow.Author.Rules.{rules}
use mir.Syntax.{w16}
use mir.Val.{SFits}
use mir.Facts.{to_z-of_z}
use Rattle.decimal.specs.Scores.{score_on}
use Rattle.decimal.proofs.Scores.{rest-is}
use Rattle.team_script.specs.Boards.{scored}
use Rattle.team_script.proofs.with_scores.Goals as goal

pub returns-in_err-first : goal.returns-in_err-first
unfolding scored
returns-in_err-first c = c.from_residual.ensures ∙ rw (← c.score_in.ensures, c.in_err-first.was)

pub returns-in_err-second : goal.returns-in_err-second
unfolding scored
returns-in_err-second c =
    c.from_residual-in_err-second.ensures ∙ rw (
      ← c.score_in.ensures,
      c.in_ok-first.was,
      ← (let s = c.args.bytes.now in
          c.read_score.ensures ∙ ap score_on (rest-is c.behind_space-at.result s ∙ c.behind_space-at.ensures.0)),
      c.in_err-second.was,
    )

pub returns : goal.returns
unfolding scored
returns c =
    let f : SFits w16 c.in_ok-first.first = search rules in
    let g : SFits w16 c.in_ok-second.second = search rules in
    rw (
      ← c.score_in.ensures,
      c.in_ok-first.was,
      ← (let s = c.args.bytes.now in
          c.read_score.ensures ∙ ap score_on (rest-is c.behind_space-at.result s ∙ c.behind_space-at.ensures.0)),
      c.in_ok-second.was,
      to_z-of_z f,
      to_z-of_z g,
    )
