-- Words that grow at the low end: a bit more, or four.
-- Assumes nothing.
use Rattle.std.specs.Prelude.{ℕ, ◌+◌, ◌*◌, ◌%◌, ◌^◌, Bool, eqb, if◌then◌else◌}
use Rattle.laws.specs.Cards.{suit_of}

-- a test as a bit
abbrev pub bit_of : Bool → ℕ
bit_of test = if test then 1 else 0

-- the worth of a card in a trick: a trump is above the suit led, that above any other, then the higher card; who played it stands lowest
unfoldable pub worth : ℕ → ℕ → ℕ → ℕ → ℕ
worth trump led card seat = bit_of (eqb (suit_of card) trump) * 512 + bit_of (eqb (suit_of card) led) * 256 + card * 4 + seat

-- one bit more, lowest; 64 bits stay
unfoldable pub with_bit : ℕ → ℕ → ℕ
with_bit word bit = word % 2 ^ 63 * 2 + bit % 2

-- four bits more, lowest; 64 bits stay
unfoldable pub with_four : ℕ → ℕ → ℕ
with_four word bits = word % 2 ^ 60 * 16 + bits % 16

-- one trick more, lowest: its winner 2 bits, and the suit led 2; 64 bits stay
unfoldable pub with_entry : ℕ → ℕ → ℕ → ℕ
with_entry word winner led = word % 2 ^ 60 * 16 + winner % 4 * 4 + led % 4
