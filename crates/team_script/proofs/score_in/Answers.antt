-- `team_script::score_in` meets its contract. Assumes nothing.
use mathlib.Core.Path.{sym, ap, ◌∙◌}
use lib.Seq.{length-take-le}
use Rattle.decimal.specs.Scores.{score_on}
use Rattle.team_script.proofs.Fields.{field_is}
use Rattle.team_script.proofs.score_in.Goals as goal

pub slice_bounds-read_score-end : goal.slice_bounds-read_score-end
slice_bounds-read_score-end c = sym (length-take-le _ _ c.to_space-end.ensures.1)

pub returns : goal.returns
returns c = c.read_score.ensures ∙ ap score_on (field_is _ _ c.to_space-end.ensures.0)
