-- A seat's hand as a word, one bit for a place of the holder list, and a suit's cards as thirteen of its bits.
-- Assumes nothing.
use Rattle.std.specs.Prelude.{ℕ, suc, ◌+◌, ◌*◌, ◌/◌, ◌%◌, ◌^◌, Bool, not, ◌&&◌, List, [], ◌∷◌, eqb, ltb, take, drop, if◌then◌else◌}
use Rattle.std.specs.Int.Count.{ones}
use Rattle.laws.specs.Choice.{some_below}
use Rattle.laws.specs.Cards.{dealt_to, cards_dealt}
use Rattle.laws.specs.Law44.{is_of}

-- the places that a seat holds, as bits: the first place is the lowest bit
unfoldable pub word_of : ℕ → List ℕ → ℕ
word_of seat [] = 0
word_of seat (holder ∷ rest) = word_of seat rest * 2 + (if eqb holder seat then 1 else 0)

-- the words of North, East, South and West
unfoldable pub words_of : List ℕ → List ℕ
words_of holders = word_of 0 holders ∷ word_of 1 holders ∷ word_of 2 holders ∷ word_of 3 holders ∷ []

-- how many cards of a suit a hand has: the set bits among the suit's thirteen; of a suit of 4 or more there are none
unfoldable pub suit_bits : ℕ → ℕ → ℕ
suit_bits hand suit = if ltb suit 4 then ones (hand / 2 ^ (13 * suit) % 2 ^ 13) else 0

-- a hand has a card of a suit
unfoldable pub has_suit : ℕ → ℕ → Bool
has_suit hand suit = not (eqb (suit_bits hand suit) 0)

-- the first of some hands, the seats counted from a number on, that has not thirteen cards; the number past the last where each has
unfoldable pub not_thirteen_from : ℕ → List ℕ → ℕ
not_thirteen_from seat [] = seat
not_thirteen_from seat (hand ∷ rest) = if eqb (ones hand) 13 then not_thirteen_from (suc seat) rest else seat

-- the thirteen places of a suit; none for a suit of 4 or more, since there are 52 places
abbrev pub suit_places : ℕ → List ℕ → List ℕ
suit_places suit holders = take 13 (drop (13 * suit) holders)

-- how many cards of a suit a seat holds; of a suit of 4 or more nobody holds a card
unfoldable pub suit_count : ℕ → ℕ → List ℕ → ℕ
suit_count seat suit holders = cards_dealt seat (suit_places suit holders)

-- a seat holds a card of a suit; of a suit of 4 or more nobody does
unfoldable pub holds_one : List ℕ → ℕ → ℕ → Bool
holds_one holders seat suit = some_below 52 (λ card. is_of suit card && eqb (dealt_to holders card) seat)
