-- `tree_script::score_of` meets its contract. Assumes nothing.
use mathlib.Core.Path.{◌∙◌}
use borrow.Author.Rules.{rules}
use mir.Syntax.{w16}
use mir.Val.{SFits}
use mir.Facts.{to_z-of_z}
use Rattle.tree_script.proofs.score_of.Goals as goal

pub returns-in_err-score : goal.returns-in_err-score
returns-in_err-score c = c.from_residual.ensures ∙ rw (← c.read_score.ensures, c.in_err-score.was)

pub returns : goal.returns
returns c =
    let f : SFits w16 c.in_ok-score.score = search rules in
    rw (← c.read_score.ensures, c.in_ok-score.was, to_z-of_z f)
