-- `play::Play::with_card` meets its contract. Assumes nothing.
use native.Mathlib.Omega.{arith}
use Rattle.deal.proofs.Words.{own_bit}
use Rattle.play.proofs.Steps.{on_table}
use Rattle.play.proofs.Play.with_card.Goals as goal

pub returns : goal.returns
returns c =
    on_table _ _ c.worth-worth.ensures c.revoke_bit-revoke.ensures c.with_played-after.ensures (own_bit (omega arith) c.card_bit.ensures)
    c.with_bit.ensures c.max.ensures
