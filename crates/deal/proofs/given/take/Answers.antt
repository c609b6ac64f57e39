-- `take` meets its contract: the holders are refused, or seats. Assumes nothing.
use Rattle.std.proofs.Common.{sym, ◌∙◌}
use Rattle.deal.proofs.Taking.{seats_52, deal_no_seats}
use Rattle.deal.proofs.given.take.Goals as goal

pub returns-then-not-are_seats : goal.returns-then-not-are_seats
returns-then-not-are_seats c = rw c.at.ensures (deal_no_seats _ (sym c.are_seats.ensures ∙ c.if-not-are_seats.true))

pub copy_from_slice-requires : goal.copy_from_slice-requires
copy_from_slice-requires c = sym (seats_52 _ (sym c.are_seats.ensures ∙ c.if-not-are_seats.false))
