-- `tree_script::fresh_on` meets its contract. Assumes nothing.
use Rattle.std.proofs.Common.{◌∙◌}
use Rattle.tree_script.specs.Calls.{fresh_on}
use Rattle.decimal.proofs.Scores.{is-number, no_number_lem}
use Rattle.tree_script.proofs.fresh_on.Goals as goal

pub returns-in_err-n : goal.returns-in_err-n
unfolding fresh_on
returns-in_err-n c = c.from_residual.ensures ∙ rw (no_number_lem _ _ c.read_number.ensures c.in_err-n.was)

pub returns : goal.returns
unfolding fresh_on
returns c =
    let n = is-number _ _ _ c.read_number.ensures c.in_ok-n.was in
    rw (c.board_in.ensures, n.0, n.1)
