-- Sets of cards as words, a bit for each of the 52 cards.
-- Assumes nothing.
use Rattle.std.specs.Prelude.{ℕ, ◌-◌, ◌*◌, ◌^◌, Bool, not, eqb, leb, if◌then◌else◌}
use Rattle.std.specs.Int.Bits.{bit_and, bit_xor}
use Rattle.std.specs.Int.Count.{ones}

-- the set of one card; none for a number from 52 on
unfoldable pub card_word : ℕ → ℕ
card_word card = if leb 52 card then 0 else (2 ^ card)

-- the cards of a suit; none for a number from 4 on
unfoldable pub suit_word : ℕ → ℕ
suit_word suit = if leb 4 suit then 0 else (8191 * 2 ^ (13 * suit))

-- two sets have a card in common
unfoldable pub meets : ℕ → ℕ → Bool
meets a b = not (eqb (ones (bit_and a b)) 0)

-- the cards of a set that are not in another
unfoldable pub without : ℕ → ℕ → ℕ
without a b = bit_and a (bit_xor (2 ^ 52 - 1) b)
