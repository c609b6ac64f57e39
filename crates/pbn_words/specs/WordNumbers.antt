-- What the functions that read words answer. Assumes nothing.
use Rattle.std.specs.Prelude.{ℕ, ◌+◌, ◌-◌, ◌*◌, Bool, true, false, List, eqb, length, get_or, Option, Some, None, if◌then◌else◌}
use Rattle.laws.specs.PbnText.{call_word, card_word}
use Rattle.laws.specs.PbnReading.{Read, misses, reads, number_of}

-- what is read, where something is
abbrev pub if_read : {A : Type 0} → Read A → Option A
if_read misses = None
if_read (reads a) = Some a

-- the words of calls, or of cards, and how many there are
abbrev pub word_of : Bool → ℕ → List ℕ
word_of false = call_word
word_of true = card_word

abbrev pub words : Bool → ℕ
words false = 38
words true = 52

-- the call, or the card, whose word it is
abbrev pub word_in : Bool → List ℕ → Read ℕ
word_in cards word = number_of (word_of cards) (words cards) word

-- ---- the Board line
-- the value of the digit at a place
abbrev pub value_at : List ℕ → ℕ → ℕ
value_at line i = get_or line i 0 - 48

-- what one to three digits in their place say
unfoldable pub board_said : List ℕ → ℕ
board_said line =
    if eqb (length line) 11 then value_at line 8
    else if eqb (length line) 12 then 10 * value_at line 8 + value_at line 9
    else if eqb (length line) 13 then 100 * value_at line 8 + 10 * value_at line 9 + value_at line 10
    else 0
