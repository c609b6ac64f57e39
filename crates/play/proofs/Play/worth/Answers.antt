-- `Play::worth` meets its contract. Assumes nothing.
use Rattle.std.proofs.Common.{rules, ◌∙◌}
use Rattle.play.proofs.Steps.{seat-low, bit_is}
use Rattle.play.specs.Position.{worth_of}
use Rattle.play.specs.Words.{worth}
use Rattle.play.proofs.Play.worth.Goals as goal

pub overflow_add-result-3 : goal.overflow_add-result-3
overflow_add-result-3 c = let s = seat-low _ c.turn.ensures in search rules

pub returns : goal.returns
unfolding worth_of worth
returns c = simp (c.from-trump.ensures ∙ bit_is _, c.from-on.ensures ∙ bit_is _, c.turn.ensures)
