-- The position after a history of cards, latest first, and which histories the verdicts allow.
-- `deal` has the holder of each card, `trump` is the contract's strain, `opening` leads to the first trick.
-- Assumes nothing.
use Rattle.std.specs.Prelude.{ℕ, ◌+◌, ◌*◌, ◌/◌, ◌%◌, ◌≡◌, List, [], ◌∷◌, map, eqb, set, if◌then◌else◌}
use Rattle.laws.specs.Refusals.{accepted}
use Rattle.laws.specs.Law44 as Law
use Rattle.laws.specs.Law44.{cards_in_trick, trick_under_way, suit_led, winning_card, leader, winner, to_play}
use Rattle.laws.specs.Law61.{Revoke, is_revoke}
use Rattle.laws.specs.CardRefusal.{card_refusal}
use Rattle.deal.specs.Hands.{words_of}
use Rattle.play.specs.declared.Play.{Play}
use Rattle.play.specs.declared.Tricks.{Tricks}
use Rattle.play.specs.declared.Won.{Won}
use Rattle.play.specs.Words.{bit_of, worth}
use Rattle.play.specs.Position.{start_of, step}
use Rattle.play.specs.Told as Told

-- the position that the code keeps after the cards
unfoldable pub position_of : List ℕ → ℕ → ℕ → List ℕ → Play
position_of deal trump opening [] = start_of deal (words_of deal) trump opening
position_of deal trump opening (c ∷ g) = step (position_of deal trump opening g) c

-- no card of the history is refused after those before it
unfoldable pub AllPlayed : List ℕ → ℕ → ℕ → List ℕ → Type 0
AllPlayed deal trump opening [] = Unit {0}
AllPlayed deal trump opening (c ∷ g) = (card_refusal trump opening deal g c ≡ accepted) × AllPlayed deal trump opening g

-- what stands at the cards' places: who was dealt the card, or 4 + the seat that played it
unfoldable pub holders_of : List ℕ → ℕ → ℕ → List ℕ → List ℕ
holders_of deal trump opening [] = deal
holders_of deal trump opening (c ∷ g) = set (holders_of deal trump opening g) c (4 + to_play trump opening g)

-- the worth of the card that wins so far, 0 before the first
unfoldable pub best_worth : ℕ → ℕ → List ℕ → ℕ
best_worth trump leader [] = 0
best_worth trump leader (c ∷ t) =
    worth trump (suit_led (c ∷ t)) (winning_card trump (c ∷ t)) (winner trump leader (c ∷ t))

-- the complete tricks, an entry of four bits each, the last lowest: winner and suit led; above them the opening leader
unfoldable pub entries_of : ℕ → ℕ → List ℕ → ℕ
entries_of trump opening [] = opening % 4 * 4
entries_of trump opening (c ∷ g) =
    if eqb (cards_in_trick (c ∷ g)) 0 then entries_of trump opening g * 16 + leader trump opening (c ∷ g) % 4 * 4 + suit_led (c ∷ trick_under_way g) % 4
    else entries_of trump opening g

-- four bits of each complete trick's number, the last lowest; `number` is asked of the trick's cards, latest first
unfoldable pub fours_of : (List ℕ → ℕ) → List ℕ → ℕ
fours_of number [] = 0
fours_of number (c ∷ g) =
    if eqb (cards_in_trick (c ∷ g)) 0 then fours_of number g * 16 + number (c ∷ trick_under_way g) % 16 else fours_of number g

-- the four lowest bits of the card that won, and the two above them
abbrev pub low_of : ℕ → List ℕ → ℕ
low_of trump t = winning_card trump t

abbrev pub high_of : ℕ → List ℕ → ℕ
high_of trump t = winning_card trump t / 16

-- a bit for each card, the last lowest: 1 for a revoke
unfoldable pub revoked_of : List ℕ → ℕ → ℕ → List ℕ → ℕ
revoked_of deal trump opening [] = 0
revoked_of deal trump opening (c ∷ g) = revoked_of deal trump opening g * 2 + bit_of (is_revoke trump opening deal g c)

-- a revoke as its byte
abbrev pub byte_of : Revoke → ℕ
byte_of r = Told.revoke_byte r.trick r.seat r.suit

-- how many cards of the history a seat played
unfoldable pub plays_of : ℕ → ℕ → ℕ → List ℕ → ℕ
plays_of trump opening seat [] = 0
plays_of trump opening seat (c ∷ g) = (if eqb (to_play trump opening g) seat then 1 else 0) + plays_of trump opening seat g

-- a trick's answer as the code has it
abbrev pub told_of : Law.Won → Won
told_of w = record { seat = w.seat; card = w.card }

-- and as the Laws have it
abbrev pub law_of : Won → Law.Won
law_of w = record { seat = w.seat; card = w.card }

-- the complete tricks as the Laws have them: how many, those of each side, and their answers in order
unfoldable pub tricks_of : ℕ → ℕ → List ℕ → Tricks
tricks_of trump opening g = Told.tricks_of (map told_of (Law.won_tricks trump opening g))
