-- Portable Bridge Notation, read: what stands in a text of the subset, or the line where no text of the subset goes on as the text does.
-- The text is cut at its newlines. A line is read as the number whose word or line it is, so that reading is the inverse of printing.
-- Assumes nothing.
use Rattle.std.specs.Prelude.{ℕ, zero, suc, ◌+◌, ◌-◌, ◌*◌, ◌≤◌, ◌≡◌, Bool, true, false, ◌&&◌, List, [], ◌∷◌, ◌++◌, eqb, ltb, length, get_or, take, drop, replicate, set, if◌then◌else◌}
use Rattle.laws.specs.Cards.{no_seat, clockwise, spades}
use Rattle.laws.specs.Contents.{are_seats}
use Rattle.laws.specs.Decimal.{starts_with}
use Rattle.laws.specs.Sheet.{newline}
use Rattle.laws.specs.Sheet as Sheet
use Rattle.laws.specs.PbnText.{Listed, absent, columns, Game, seat_letters, rank_letters, space, dot, call_word, card_word}
use Rattle.laws.specs.PbnText.{auction_tag, play_tag, board_line, seat_line, deal_line, Sayable, ended, text}

-- what is read, or that nothing is
pub data Read (A : Type 0) : Type 0 where
  misses : Read A
  reads : A → Read A

-- what follows from what is read
abbrev pub on_read : {A B : Type 0} → Read A → (A → Read B) → Read B
on_read misses next = misses
on_read (reads a) next = next a

-- ---- words
-- two lists of bytes are the same
unfoldable pub same_bytes : List ℕ → List ℕ → Bool
same_bytes [] [] = true
same_bytes [] (c ∷ t) = false
same_bytes (b ∷ s) [] = false
same_bytes (b ∷ s) (c ∷ t) = eqb b c && same_bytes s t

-- the number below n whose word it is
unfoldable pub number_of : (ℕ → List ℕ) → ℕ → List ℕ → Read ℕ
number_of word_of zero word = misses
number_of word_of (suc n) word = if same_bytes (word_of n) word then reads n else number_of word_of n word

-- the parts between the bytes that part them: one more than there are such bytes
unfoldable pub parted_by : ℕ → List ℕ → List (List ℕ)
parted_by byte [] = [] ∷ []
parted_by byte (b ∷ bytes) = if eqb b byte then ([] ∷ parted_by byte bytes) else Sheet.before b (parted_by byte bytes)

-- the numbers below n whose words they are
unfoldable pub numbers_of : (ℕ → List ℕ) → ℕ → List (List ℕ) → Read (List ℕ)
numbers_of word_of n [] = reads []
numbers_of word_of n (word ∷ words) =
    on_read (number_of word_of n word) (λ code. on_read (numbers_of word_of n words) (λ codes. reads (code ∷ codes)))

-- a line of words, one space between
abbrev pub row_in : (ℕ → List ℕ) → ℕ → List ℕ → Read (List ℕ)
row_in word_of n line = numbers_of word_of n (parted_by space line)

-- ---- the deal
-- the place of a byte among letters; their number where it is none of them
unfoldable pub place_among : List ℕ → ℕ → ℕ
place_among [] byte = 0
place_among (letter ∷ letters) byte = if eqb letter byte then 0 else suc (place_among letters byte)

-- who holds each card by hands that are written one after the other: a space goes on to the next seat's spades, a dot to the next suit, and a rank is the
-- seat's. What is written otherwise says something else
unfoldable pub held_by : List ℕ → ℕ → ℕ → List ℕ → List ℕ
held_by holders seat suit [] = holders
held_by holders seat suit (b ∷ bytes) =
    if eqb b space then held_by holders (clockwise seat 1) spades bytes
    else if eqb b dot then held_by holders seat (suit - 1) bytes
    else held_by (set holders (13 * suit + place_among rank_letters b) seat) seat suit bytes

-- the seat that the Deal tag names, and what follows its colon up to the tag's end
abbrev pub first_in : List ℕ → ℕ
first_in line = place_among seat_letters (get_or line 7 0)

abbrev pub hands_in : List ℕ → List ℕ
hands_in line = take (length line - 11) (drop 9 line)

-- the holders that a Deal line says
abbrev pub holders_in : List ℕ → List ℕ
holders_in line = held_by (replicate 52 no_seat) (first_in line) spades (hands_in line)

-- the line is the Deal line of the seat and the holders that it says
unfoldable pub is_deal_line : List ℕ → Bool
is_deal_line line = ltb (first_in line) 4 && (are_seats (holders_in line) && same_bytes (deal_line (first_in line) (holders_in line)) line)

-- ---- lines
-- which line comes next: a tag, or calls, of which there are none yet (`first_calls`), all in full lines (`calls`), or a last line of fewer (`calls_over`); or so
-- many lines of cards
pub data Stage : Type 0 where
  board : Stage
  deal : Stage
  auction : Stage
  first_calls : Stage
  calls : Stage
  calls_over : Stage
  cards : ℕ → Stage

-- the text may end
unfoldable pub may_end : Stage → Bool
may_end board = false
may_end deal = false
may_end auction = false
may_end first_calls = false
may_end calls = true
may_end calls_over = true
may_end (cards zero) = true
may_end (cards (suc n)) = false

-- what was read so far, and which line comes next
pub record State : Type 0 where
  pub stage : Stage
  pub game : Game

-- nothing was read
unfoldable pub start : State
start =
    record {
      stage = board;
      game = record { board = 1; first = 0; holders = replicate 52 0; caller = 0; calls = []; play = absent };
    }

-- a game with one thing more read
abbrev pub with_board : Game → ℕ → Game
with_board x n = record { board = n; first = x.first; holders = x.holders; caller = x.caller; calls = x.calls; play = x.play }

abbrev pub with_deal : Game → ℕ → List ℕ → Game
with_deal x first holders = record { board = x.board; first = first; holders = holders; caller = x.caller; calls = x.calls; play = x.play }

abbrev pub with_caller : Game → ℕ → Game
with_caller x seat = record { board = x.board; first = x.first; holders = x.holders; caller = seat; calls = x.calls; play = x.play }

abbrev pub with_calls : Game → List ℕ → Game
with_calls x row =
    record { board = x.board; first = x.first; holders = x.holders; caller = x.caller; calls = x.calls ++ row; play = x.play }

abbrev pub with_play : Game → Listed → Game
with_play x play = record { board = x.board; first = x.first; holders = x.holders; caller = x.caller; calls = x.calls; play = play }

-- so many cards are listed, with those of another line
unfoldable pub with_row : Listed → List ℕ → Listed
with_row absent row = absent
with_row (columns seat listed) row = columns seat (listed ++ row)

abbrev pub goes : Stage → Game → Read State
goes stage x = reads (record { stage = stage; game = x })

-- a line of calls: one to four of them, after fewer than four no other
unfoldable pub calls_in : Game → List ℕ → Read State
calls_in x line =
    on_read (row_in call_word 38 line)
    (λ row. if ltb 4 (length row) then misses else goes (if eqb (length row) 4 then calls else calls_over) (with_calls x row))

-- the Play tag
unfoldable pub play_in : Game → List ℕ → Read State
play_in x line = on_read (number_of (seat_line play_tag) 4 line) (λ seat. goes (cards 13) (with_play x (columns seat [])))

-- a line of four cards, after which n are left
unfoldable pub cards_in : ℕ → Game → List ℕ → Read State
cards_in n x line =
    on_read (row_in card_word 52 line)
    (λ row. if eqb (length row) 4 then goes (cards n) (with_play x (with_row x.play row)) else misses)

-- a board's number, from 1
unfoldable pub board_in : List ℕ → Read ℕ
board_in line = on_read (number_of (λ n. board_line (suc n)) 999 line) (λ n. reads (suc n))

-- a line is read at a stage; after calls in full lines the Play tag is known by its bracket, 91
unfoldable pub line_in : Stage → Game → List ℕ → Read State
line_in board x line = on_read (board_in line) (λ n. goes deal (with_board x n))
line_in deal x line = if is_deal_line line then goes auction (with_deal x (first_in line) (holders_in line)) else misses
line_in auction x line = on_read (number_of (seat_line auction_tag) 4 line) (λ seat. goes first_calls (with_caller x seat))
line_in first_calls x line = calls_in x line
line_in calls x line = if starts_with 91 line then play_in x line else calls_in x line
line_in calls_over x line = play_in x line
line_in (cards zero) x line = misses
line_in (cards (suc n)) x line = cards_in n x line

-- ---- the text
-- what stands in a text, or the line where no text of the subset goes on so
pub data Parsed : Type 0 where
  outside : ℕ → Parsed
  game : Game → Parsed

-- where the last line is ended, and the text may end
unfoldable pub end_in : State → ℕ → List ℕ → Parsed
end_in s n [] = if may_end s.stage then game s.game else outside n
end_in s n (b ∷ rest) = outside n

-- after a line: the rest of the text where it was read
abbrev pub after_line : ℕ → Read State → (State → Parsed) → Parsed
after_line n misses next = outside n
after_line n (reads s) next = next s

-- the lines from line n on, and at last what stands after the last newline
unfoldable pub parse_from : State → ℕ → List (List ℕ) → Parsed
parse_from s n [] = outside n
parse_from s n (rest ∷ []) = end_in s n rest
parse_from s n (line ∷ next ∷ lines) = after_line n (line_in s.stage s.game line) (λ t. parse_from t (suc n) (next ∷ lines))

-- the whole text, its lines counted from 1
unfoldable pub parse : List ℕ → Parsed
parse t = parse_from start 1 (parted_by newline t)

-- ---- the place of a refusal
-- the lines of a text that are ended by a newline
unfoldable pub whole_lines : List ℕ → List (List ℕ)
whole_lines t = take (length (parted_by newline t) - 1) (parted_by newline t)

-- the first k lines of a text, as they are ended, begin some text of the subset
pub record Agrees (t : List ℕ) (k : ℕ) : Type 0 where
  pub lines : k ≤ length (whole_lines t)
  pub whole : Game
  pub sayable : Sayable whole
  pub rest : List ℕ
  pub begins : text whole ≡ ended (take k (whole_lines t)) ++ rest

-- the line up to which no text of the subset agrees: one more than the greatest number of whole lines with which one begins
pub record StopsAt (t : List ℕ) (line : ℕ) : Type 0 where
  pub most : ℕ
  pub next : line ≡ suc most
  pub agrees : Agrees t most
  pub greatest : (k : ℕ) → Agrees t k → k ≤ most
