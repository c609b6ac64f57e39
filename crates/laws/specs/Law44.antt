-- Law 44: the play, on the cards in their order. A history has the latest card first: in `c ∷ g`, c was played after the cards of g.
-- A trick too is written latest card first. `trump` is the contract's strain (notrump 4: no card is of it), `opening` the seat that leads
-- to the first trick.
-- Assumes nothing.
use Rattle.std.specs.Prelude.{ℕ, ◌-◌, ◌/◌, ◌%◌, max, Bool, not, ◌&&◌, List, [], ◌∷◌, ◌++◌, map, eqb, length, take, if◌then◌else◌}
use Rattle.laws.specs.Choice.{some, how_many}
use Rattle.laws.specs.Cards.{suit_of, clockwise, side_of, dealt_to}

-- how many cards have been played: the place of the next play, counted from 0
unfoldable pub cards_played : List ℕ → ℕ
cards_played g = length g

-- all 52 cards have been played
unfoldable pub all_played : List ℕ → Bool
all_played g = eqb (cards_played g) 52

-- how many tricks are complete
unfoldable pub tricks_complete : List ℕ → ℕ
tricks_complete g = cards_played g / 4

-- how many of the thirteen tricks are left
unfoldable pub tricks_left : List ℕ → ℕ
tricks_left g = 13 - tricks_complete g

-- how many cards the trick under way has; 0 between tricks
unfoldable pub cards_in_trick : List ℕ → ℕ
cards_in_trick g = cards_played g % 4

-- the cards of the trick under way
unfoldable pub trick_under_way : List ℕ → List ℕ
trick_under_way g = take (cards_in_trick g) g

-- the suit of the first card; 0 where there is no card
unfoldable pub suit_led : List ℕ → ℕ
suit_led [] = 0
suit_led (c ∷ []) = suit_of c
suit_led (c ∷ d ∷ t) = suit_led (d ∷ t)

-- the card is of the suit
abbrev pub is_of : ℕ → ℕ → Bool
is_of suit card = eqb (suit_of card) suit

-- the highest card of a suit; 0 where the trick has none of it
unfoldable pub highest : ℕ → List ℕ → ℕ
highest suit [] = 0
highest suit (c ∷ t) = if is_of suit c then max c (highest suit t) else highest suit t

-- Laws 44E and 44F: the highest trump wins, and where there is none the highest card of the suit led
unfoldable pub winning_card : ℕ → List ℕ → ℕ
winning_card trump t = if some (is_of trump) t then highest trump t else highest (suit_led t) t

-- the seat that played a card to a trick that `leader` led; the leader where nobody did
unfoldable pub player_of : ℕ → ℕ → List ℕ → ℕ
player_of leader card [] = leader
player_of leader card (c ∷ t) = if eqb c card then clockwise leader (cards_played t) else player_of leader card t

-- the winner of a trick: the seat that played the winning card
unfoldable pub winner : ℕ → ℕ → List ℕ → ℕ
winner trump leader t = player_of leader (winning_card trump t) t

-- Law 44G: who leads to the trick under way, or between tricks to the next: the winner of the last one
unfoldable pub leader : ℕ → ℕ → List ℕ → ℕ
leader trump opening [] = opening
leader trump opening (c ∷ g) =
    if eqb (cards_in_trick (c ∷ g)) 0 then winner trump (leader trump opening g) (c ∷ trick_under_way g)
    else leader trump opening g

-- whose turn it is to play
unfoldable pub to_play : ℕ → ℕ → List ℕ → ℕ
to_play trump opening g = clockwise (leader trump opening g) (cards_in_trick g)

-- a trick's answer: the seat that won it, and the card that won
pub record Won : Type 0 where
  pub seat : ℕ
  pub card : ℕ

-- the answer of a trick that `leader` led
unfoldable pub won_by : ℕ → ℕ → List ℕ → Won
won_by trump leader t = record { seat = winner trump leader t; card = winning_card trump t }

-- the answers of the complete tricks, in the tricks' order
unfoldable pub won_tricks : ℕ → ℕ → List ℕ → List Won
won_tricks trump opening [] = []
won_tricks trump opening (c ∷ g) =
    if eqb (cards_in_trick (c ∷ g)) 0 then won_tricks trump opening g ++ (won_by trump (leader trump opening g) (c ∷ trick_under_way g) ∷ [])
    else won_tricks trump opening g

-- the winners of the complete tricks, in the tricks' order
unfoldable pub winners : ℕ → ℕ → List ℕ → List ℕ
winners trump opening g = map (λ (w : Won). w.seat) (won_tricks trump opening g)

-- how many of the tricks with these winners a side won
unfoldable pub tricks_won : ℕ → List ℕ → ℕ
tricks_won side ws = how_many (λ seat. eqb (side_of seat) side) ws

-- the card has been played
unfoldable pub is_played : List ℕ → ℕ → Bool
is_played g card = some (λ c. eqb c card) g

-- the seat holds the card after the plays g: it was dealt the card, and the card has not been played
unfoldable pub holds : List ℕ → List ℕ → ℕ → ℕ → Bool
holds deal g seat card = eqb (dealt_to deal card) seat && not (is_played g card)

-- the seat has played the card: it was dealt the card, and the card has been played
unfoldable pub has_played : List ℕ → List ℕ → ℕ → ℕ → Bool
has_played deal g seat card = eqb (dealt_to deal card) seat && is_played g card

-- Law 44: a card may be played from the hand of the seat whose turn it is
unfoldable pub playable : ℕ → ℕ → List ℕ → List ℕ → ℕ → Bool
playable trump opening deal g card = holds deal g (to_play trump opening g) card
