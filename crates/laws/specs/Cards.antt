-- Law 1 and the table: cards, suits, seats, sides and the deal, all as numbers.
-- Suits: clubs 0, diamonds 1, hearts 2, spades 3. Card = 13 × suit + rank, rank 0 for the two and 12 for the ace, so of two
-- cards of one suit the higher has the greater number. Seats: North 0, East 1, South 2, West 3. Sides: North-South 0, East-West 1.
-- Numbers from 52 on are no cards, and from 4 on no seats; a definition that meets one says what it makes of it.
-- Assumes nothing.
use Rattle.std.specs.Prelude.{ℕ, ◌+◌, ◌/◌, ◌%◌, Bool, List, [], ◌∷◌, eqb, get_or, if◌then◌else◌}
use Rattle.laws.specs.Choice.{how_many}

abbrev pub clubs : ℕ
clubs = 0

abbrev pub diamonds : ℕ
diamonds = 1

abbrev pub hearts : ℕ
hearts = 2

abbrev pub spades : ℕ
spades = 3

-- notrump, as a strain beside the four suits
abbrev pub notrump : ℕ
notrump = 4

abbrev pub north : ℕ
north = 0

abbrev pub east : ℕ
east = 1

abbrev pub south : ℕ
south = 2

abbrev pub west : ℕ
west = 3

-- the suit of a card
abbrev pub suit_of : ℕ → ℕ
suit_of card = card / 13

-- what stands for a seat where there is none
abbrev pub no_seat : ℕ
no_seat = 4

-- the seat that is n places clockwise from a seat
unfoldable pub clockwise : ℕ → ℕ → ℕ
clockwise seat n = (seat + n) % 4

-- the seat opposite
abbrev pub partner_of : ℕ → ℕ
partner_of seat = clockwise seat 2

-- the side of a seat
abbrev pub side_of : ℕ → ℕ
side_of seat = seat % 2

-- two seats are of one side
abbrev pub same_side : ℕ → ℕ → Bool
same_side a b = eqb (side_of a) (side_of b)

-- a deal is the list of the holders of card 0, 1, .. 51; past its end nobody holds a card
abbrev pub dealt_to : List ℕ → ℕ → ℕ
dealt_to deal card = get_or deal card no_seat

-- how many cards a seat has in a deal
unfoldable pub cards_dealt : ℕ → List ℕ → ℕ
cards_dealt seat deal = how_many (λ holder. eqb holder seat) deal

-- Law 1: the seat has thirteen cards
abbrev pub has_thirteen : ℕ → List ℕ → Bool
has_thirteen seat deal = eqb (cards_dealt seat deal) 13

-- the seats in the order North, East, South, West
abbrev pub seats : List ℕ
seats = north ∷ east ∷ south ∷ west ∷ []

-- the first of some seats that has not thirteen cards; nobody where each has
unfoldable pub first_without_thirteen : List ℕ → List ℕ → ℕ
first_without_thirteen deal [] = no_seat
first_without_thirteen deal (seat ∷ rest) = if has_thirteen seat deal then first_without_thirteen deal rest else seat

-- the first seat without thirteen cards
abbrev pub seat_without_thirteen : List ℕ → ℕ
seat_without_thirteen deal = first_without_thirteen deal seats
