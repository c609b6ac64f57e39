-- `count_cards` meets its contract: without a code each number is a card. Assumes nothing.
use mathlib.Core.Path.{sym, ◌∙◌}
use Rattle.laws.proofs.FlatPlay.{cards-alone}
use Rattle.contents.proofs.plays.count_cards.Goals as goal

pub returns : goal.returns
returns c = cards-alone _ (sym c.has_code.ensures ∙ c.if-has_code.false)
