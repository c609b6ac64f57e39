-- `team_script::read_line` meets its contract. Assumes nothing.
use mathlib.Core.Path.{sym, ap, ◌∙◌}
use lib.Seq.{length-take-le}
use Rattle.decimal.specs.Numbers.{number_on}
use Rattle.decimal.proofs.Scores.{rest-is}
use Rattle.team_script.specs.Boards.{asked, asked_on}
use Rattle.team_script.proofs.Fields.{field_is}
use Rattle.team_script.proofs.read_line.Goals as goal

pub slice_bounds-read_number-end : goal.slice_bounds-read_number-end
slice_bounds-read_number-end c = sym (length-take-le _ _ c.to_space-end.ensures.1)

pub returns-in_err-n : goal.returns-in_err-n
unfolding asked_on asked
returns-in_err-n c = c.from_residual.ensures ∙ rw (← (c.read_number.ensures ∙ ap number_on (field_is _ _ c.to_space-end.ensures.0)), c.in_err-n.was)

pub returns : goal.returns
unfolding asked_on asked
returns c =
    let s = c.args.line.now in
    let e = rest-is c.behind_space-at.result s ∙ c.behind_space-at.ensures.0 in
    rw (← (c.read_number.ensures ∙ ap number_on (field_is _ _ c.to_space-end.ensures.0)), c.in_ok-n.was, ← e, ← c.board_in.ensures) c.with_scores.ensures
