-- `tree_script::award_on` meets its contract. Assumes nothing.
use Rattle.std.proofs.Common.{◌∙◌}
use Rattle.tree_script.specs.Calls.{award_on}
use Rattle.decimal.proofs.Scores.{is-number, no_number_lem}
use Rattle.tree_script.proofs.award_on.Goals as goal

pub returns-in_err-n : goal.returns-in_err-n
unfolding award_on
returns-in_err-n c = c.from_residual.ensures ∙ rw (no_number_lem _ _ c.read_number.ensures c.in_err-n.was)

pub returns : goal.returns
unfolding award_on
returns c =
    let n = is-number _ _ _ c.read_number.ensures c.in_ok-n.was in
    rw (n.0, n.1)
