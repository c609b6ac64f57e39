-- `deal::suit_held` meets its contract: the set bits among the suit's thirteen. Assumes nothing.
use Prim.Native.Nat.{◌*◌, ◌%◌}
use native.Mathlib.Omega.{arith}
use lib.Pow.{pow_pos}
use Rattle.deal.proofs.Words.{own_bit}
use Rattle.deal.proofs.Held.{suit_in, suit_out}
use Rattle.deal.proofs.suit_held.Goals as goal

pub returns-then-suit-gt3 : goal.returns-then-suit-gt3
returns-then-suit-gt3 c = suit_out c.args.hand c.args.suit c.if-suit-gt3.true

pub nonzero_div-result : goal.nonzero_div-result
nonzero_div-result c = rw c.card_bit.ensures (pow_pos (13 * c.args.suit % 64))

pub returns : goal.returns
returns c = suit_in c.args.hand c.args.suit _ (omega arith) (own_bit (omega arith) c.card_bit.ensures)
