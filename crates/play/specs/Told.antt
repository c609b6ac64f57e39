-- What a position tells at the end: the complete tricks, and the bytes of cards whose bit is set.
-- Assumes nothing.
use Rattle.std.specs.Prelude.{ℕ, zero, suc, ◌+◌, ◌-◌, ◌*◌, ◌/◌, ◌%◌, ◌^◌, List, [], ◌∷◌, ◌++◌, map, eqb, ltb, length, if◌then◌else◌}
use Rattle.laws.specs.Padded.{padded}
use Rattle.laws.specs.Law44.{tricks_won}
use Rattle.play.specs.declared.Play.{Play}
use Rattle.play.specs.declared.Tricks.{Tricks}
use Rattle.play.specs.declared.Won.{Won}
use Rattle.play.specs.Words.{with_entry}
use Rattle.play.specs.Position.{leads}

-- how many tricks are complete, at most thirteen
unfoldable pub complete_in : Play → ℕ
complete_in p = if ltb p.played 52 then p.played / 4 else 13

-- the answers of n tricks, in the tricks' order, by their entries and the words of the cards that won
unfoldable pub answers_in : ℕ → ℕ → ℕ → ℕ → List Won
answers_in zero entries low high = []
answers_in (suc n) entries low high =
    answers_in n (entries / 16) (low / 16) (high / 16) ++ (record { seat = entries / 4 % 4; card = high % 16 * 16 + low % 16 } ∷ [])

-- what stands at a place without a trick
abbrev pub no_trick : Won
no_trick = record { seat = 0; card = 0 }

-- the winners of tricks with these answers
abbrev pub seats_of : List Won → List ℕ
seats_of ws = map (λ (w : Won). w.seat) ws

-- tricks with these answers: how many, those of each side, and the answers in thirteen places
abbrev pub tricks_of : List Won → Tricks
tricks_of ws = record { count = length ws; won = tricks_won 0 (seats_of ws) ∷ tricks_won 1 (seats_of ws) ∷ []; answers = padded no_trick 13 ws }

-- the complete tricks
unfoldable pub tricks_in : Play → Tricks
tricks_in p = tricks_of (answers_in (complete_in p) p.tricks p.low p.high)

-- the entries of the tricks, with one for the trick under way where there is one
unfoldable pub entries_in : Play → ℕ
entries_in p = if leads p then p.tricks else with_entry p.tricks 0 p.led

-- a revoke as a byte: trick 4 bits, seat 2, suit led 2
unfoldable pub revoke_byte : ℕ → ℕ → ℕ → ℕ
revoke_byte trick seat suit = trick % 16 * 16 + seat % 4 * 4 + suit % 4

-- the place among the cards, from 0, of the card with so many cards after it
abbrev pub card_before : ℕ → ℕ → ℕ
card_before played later = (played % 64 + 63 - later % 64) % 64

-- the entries from the trick of a card on, that trick lowest: as many tricks are taken away as were begun after it
abbrev pub entries_from : ℕ → ℕ → ℕ → ℕ
entries_from entries played card = entries / 2 ^ (4 * (((played % 64 + 3) / 4 + 15 - card / 4) % 16))

-- the byte of a revoke at the card with so many cards after it
unfoldable pub byte_after : ℕ → ℕ → ℕ → ℕ
byte_after entries played later =
    let card = card_before played later in
    let here = entries_from entries played card in
    revoke_byte (card / 4 + 1) (here / 64 % 4 + card % 4) here

-- the bytes of those of so many cards whose bit is set, in order of play; `byte` tells that of the card with so many cards after it, and `later` cards were
-- played after them
unfoldable pub bytes_in : (ℕ → ℕ) → ℕ → ℕ → ℕ → List ℕ
bytes_in byte zero bits later = []
bytes_in byte (suc n) bits later = bytes_in byte n (bits / 2) (suc later) ++ (if eqb (bits % 2) 1 then (byte later ∷ []) else [])
