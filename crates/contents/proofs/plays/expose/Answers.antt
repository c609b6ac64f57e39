-- `expose` meets its contract: a bit over 1, or the position's refusal and step. Assumes nothing.
use Rattle.std.proofs.Common.{arith, ◌∙◌}
use Rattle.position.specs.Table.{exposed_by}
use Rattle.contents.proofs.PlayTurns.{bit-over, exposed_is}
use Rattle.contents.proofs.plays.expose.Goals as goal

pub returns-then-bit-gt1 : goal.returns-then-bit-gt1
returns-then-bit-gt1 c = λ deal trump opening e place rest o room card. bit-over deal trump opening e _ place o rest room card _ _ c.if-bit-gt1.true

pub returns : goal.returns
unfolding exposed_by
returns c =
    λ deal trump opening e place rest o room card.
    c.take_exposure.ensures ∙ exposed_is deal trump opening e _ place o rest room card _ _ (omega (arith, c.if-bit-gt1.false))
