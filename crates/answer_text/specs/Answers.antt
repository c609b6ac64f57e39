-- What the calls of a script answer, as text: a line for each call, and a line for each entry of a tally. Bytes are ASCII codes.
-- Assumes nothing.
use Rattle.std.specs.Prelude.{ℕ, zero, suc, ◌+◌, ◌/◌, ◌%◌, List, [], ◌∷◌, ◌++◌, eqb, ltb, ℤ, if◌then◌else◌}
use Rattle.laws.specs.Decimal.{digit, decimal, signed_decimal}
use Rattle.laws.specs.Sheet.{newline, refusal}
use Rattle.laws.specs.Refused.{number}
use Rattle.text.specs.Refused.{refused_text}
use Rattle.tally.specs.declared.Tally.{Tally}
use Rattle.tree_stack.specs.declared.Said.{Said}
use Rattle.tree_stack.specs.declared.Said.TheVariants.{Done, Refused, Points, Played, Awarded, Alone, Stopped}

-- `ok`
abbrev pub ok_text : List ℕ
ok_text = 111 ∷ 107 ∷ newline ∷ []

-- `refused N place P`
abbrev pub placed_text : ℕ → ℕ → List ℕ
placed_text n place =
    (((((114 ∷ 101 ∷ 102 ∷ 117 ∷ 115 ∷ 101 ∷ 100 ∷ 32 ∷ []) ++ decimal n) ++ (32 ∷ 112 ∷ 108 ∷ 97 ∷ 99 ∷ 101 ∷ 32 ∷ [])) ++ decimal place)) ++ (newline ∷ [])

-- the place is told where it is not 0
unfoldable pub refused_at_text : ℕ → ℕ → List ℕ
refused_at_text n place = if eqb place 0 then refused_text n else placed_text n place

-- `NS EW`
abbrev pub points_text : ℕ → ℕ → List ℕ
points_text ns ew = (decimal ns ++ (32 ∷ decimal ew)) ++ (newline ∷ [])

-- a hexadecimal digit, with small letters
abbrev pub hex_digit : ℕ → ℕ
hex_digit n = if ltb n 10 then digit n else 87 + n

-- so many hexadecimal digits of a number, its last ones
unfoldable pub hex_digits : ℕ → ℕ → List ℕ
hex_digits zero n = []
hex_digits (suc k) n = hex_digits k (n / 16) ++ (hex_digit (n % 16) ∷ [])

-- `played ` and `awarded `
abbrev pub played_word : List ℕ
played_word = 112 ∷ 108 ∷ 97 ∷ 121 ∷ 101 ∷ 100 ∷ 32 ∷ []

abbrev pub awarded_word : List ℕ
awarded_word = 97 ∷ 119 ∷ 97 ∷ 114 ∷ 100 ∷ 101 ∷ 100 ∷ 32 ∷ []

-- a word and 64 bits as sixteen hexadecimal digits
abbrev pub bits_text : List ℕ → ℕ → List ℕ
bits_text word bits = word ++ hex_digits 16 bits ++ (newline ∷ [])

-- `alone`
abbrev pub alone_text : List ℕ
alone_text = 97 ∷ 108 ∷ 111 ∷ 110 ∷ 101 ∷ newline ∷ []

-- what a call answers; where the run ends there, that its line is refused
unfoldable pub said_text : Said → ℕ → List ℕ
said_text Done line = ok_text
said_text (Refused e) line = refused_at_text (number e.refusal) e.place
said_text (Points ns ew) line = points_text ns ew
said_text (Played bits) line = bits_text played_word bits
said_text (Awarded bits) line = bits_text awarded_word bits
said_text Alone line = alone_text
said_text Stopped line = refusal line

-- `SCORE COUNT`
abbrev pub entry_text : ℤ → ℕ → List ℕ
entry_text score count = (signed_decimal score ++ (32 ∷ decimal count)) ++ (newline ∷ [])

-- a tally's places up to the first without a result, a line each
unfoldable pub places_text : List ℤ → List ℕ → List ℕ
places_text [] counts = []
places_text (s ∷ scores) [] = []
places_text (s ∷ scores) (c ∷ counts) = if eqb c 0 then [] else entry_text s c ++ places_text scores counts

-- the text of a tally
abbrev pub tally_text : Tally → List ℕ
tally_text t = places_text t.scores t.counts
