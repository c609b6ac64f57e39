-- `take_code` meets its contract: an exposure, or a choice by the position's refusal and step. Assumes nothing.
use Rattle.std.proofs.Common.{◌∙◌}
use Rattle.position.specs.Table.{chosen_by}
use Rattle.contents.proofs.PlayTurns.{chosen_is}
use Rattle.contents.proofs.plays.take_code.Goals as goal

pub returns-then-code-eq52 : goal.returns-then-code-eq52
returns-then-code-eq52 c = λ deal trump opening e place rest o room card. rw c.if-code-eq52.true (c.expose.ensures deal trump opening e place rest o room card)

pub returns : goal.returns
unfolding chosen_by
returns c =
    λ deal trump opening e place rest o room card.
    c.take_choice.ensures ∙ chosen_is deal trump opening e _ place o rest room card _ _ _ c.if-code-eq52.false
