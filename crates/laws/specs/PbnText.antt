-- Portable Bridge Notation: what stands in a text of the subset, and the text that says it. Bytes are ASCII codes.
-- Assumes nothing.
use Rattle.std.specs.Prelude.{ℕ, zero, suc, ◌+◌, ◌*◌, ◌%◌, ◌≤◌, ◌<◌, ◌≡◌, List, [], ◌∷◌, ◌++◌, map, eqb, length, get_or, if◌then◌else◌}
use Rattle.laws.specs.Cards.{suit_of, dealt_to, clockwise, clubs, diamonds, hearts, spades, notrump}
use Rattle.laws.specs.Auction.{pass, double, redouble, level_of, strain_of}
use Rattle.laws.specs.Decimal.{digit, decimal}
use Rattle.laws.specs.Sheet.{newline}

-- ---- what stands in a text
-- what Play lists: nothing, or the seat of its tag and the cards, trick by trick in columns from that seat
pub data Listed : Type 0 where
  absent : Listed
  columns : ℕ → List ℕ → Listed

pub record Game : Type 0 where
  pub board : ℕ
  -- the seat whose hand the Deal tag has first
  pub first : ℕ
  -- the holder of card 0, 1, .. 51
  pub holders : List ℕ
  -- the seat of the Auction tag
  pub caller : ℕ
  pub calls : List ℕ
  pub play : Listed

-- each number of a list is below n
unfoldable pub EachBelow : ℕ → List ℕ → Type 0
EachBelow n [] = Unit {0}
EachBelow n (k ∷ l) = (k < n) × EachBelow n l

-- what Play can list: 52 cards, any of them, also one twice
abbrev pub Listable : Listed → Type 0
Listable absent = Unit {0}
Listable (columns seat cards) = (seat < 4) × (length cards ≡ 52) × EachBelow 52 cards

-- what can stand in a text: each card has one holder, and there is a call; whether seats, calls and cards fit is not asked
pub record Sayable (x : Game) : Type 0 where
  pub board_from : 1 ≤ x.board
  pub board_to : x.board ≤ 999
  pub first : x.first < 4
  pub deal : length x.holders ≡ 52
  pub holders : EachBelow 4 x.holders
  pub caller : x.caller < 4
  pub some_call : 1 ≤ length x.calls
  pub calls : EachBelow 38 x.calls
  pub play : Listable x.play

-- ---- letters and words
-- the letter of a number, by its place among some letters
abbrev pub letter_of : List ℕ → ℕ → ℕ
letter_of letters n = get_or letters n 0

-- N E S W
abbrev pub seat_letters : List ℕ
seat_letters = 78 ∷ 69 ∷ 83 ∷ 87 ∷ []

-- C D H S
abbrev pub suit_letters : List ℕ
suit_letters = 67 ∷ 68 ∷ 72 ∷ 83 ∷ []

-- 2 3 4 5 6 7 8 9 T J Q K A
abbrev pub rank_letters : List ℕ
rank_letters = 50 ∷ 51 ∷ 52 ∷ 53 ∷ 54 ∷ 55 ∷ 56 ∷ 57 ∷ 84 ∷ 74 ∷ 81 ∷ 75 ∷ 65 ∷ []

abbrev pub space : ℕ
space = 32

abbrev pub dot : ℕ
dot = 46

-- the word of a strain: the suit's letter, or NT
unfoldable pub strain_word : ℕ → List ℕ
strain_word strain = if eqb strain notrump then (78 ∷ 84 ∷ []) else (letter_of suit_letters strain ∷ [])

-- the word of a call: Pass, X, XX, or level and strain
unfoldable pub call_word : ℕ → List ℕ
call_word c =
    if eqb c pass then (80 ∷ 97 ∷ 115 ∷ 115 ∷ [])
    else if eqb c double then (88 ∷ [])
    else if eqb c redouble then (88 ∷ 88 ∷ [])
    else (digit (level_of c) ∷ strain_word (strain_of c))

-- the word of a card: its suit, then its rank
unfoldable pub card_word : ℕ → List ℕ
card_word c = letter_of suit_letters (suit_of c) ∷ letter_of rank_letters (c % 13) ∷ []

-- ---- lines
-- `[Board "`, `[Deal "`, `[Auction "` and `[Play "`
abbrev pub board_tag : List ℕ
board_tag = 91 ∷ 66 ∷ 111 ∷ 97 ∷ 114 ∷ 100 ∷ 32 ∷ 34 ∷ []

abbrev pub deal_tag : List ℕ
deal_tag = 91 ∷ 68 ∷ 101 ∷ 97 ∷ 108 ∷ 32 ∷ 34 ∷ []

abbrev pub auction_tag : List ℕ
auction_tag = 91 ∷ 65 ∷ 117 ∷ 99 ∷ 116 ∷ 105 ∷ 111 ∷ 110 ∷ 32 ∷ 34 ∷ []

abbrev pub play_tag : List ℕ
play_tag = 91 ∷ 80 ∷ 108 ∷ 97 ∷ 121 ∷ 32 ∷ 34 ∷ []

-- `"]`
abbrev pub tag_end : List ℕ
tag_end = 34 ∷ 93 ∷ []

unfoldable pub board_line : ℕ → List ℕ
board_line board = board_tag ++ (decimal board ++ tag_end)

-- a tag whose value is a seat
unfoldable pub seat_line : List ℕ → ℕ → List ℕ
seat_line tag seat = tag ++ (letter_of seat_letters seat ∷ tag_end)

-- the ranks below n that a seat holds in a suit, highest first
unfoldable pub ranks_held : List ℕ → ℕ → ℕ → ℕ → List ℕ
ranks_held holders seat suit zero = []
ranks_held holders seat suit (suc r) =
    if eqb (dealt_to holders (13 * suit + r)) seat then (letter_of rank_letters r ∷ ranks_held holders seat suit r)
    else ranks_held holders seat suit r

-- a hand and what follows it: spades, hearts, diamonds and clubs, with dots between
unfoldable pub hand_and : List ℕ → ℕ → List ℕ → List ℕ
hand_and holders seat rest =
    ranks_held holders seat spades 13
    ++ (dot ∷ ranks_held holders seat hearts 13
    ++ (dot ∷ ranks_held holders seat diamonds 13
    ++ (dot ∷ ranks_held holders seat clubs 13 ++ rest)))

-- the four hands clockwise from a seat, one space between, and what follows them
unfoldable pub hands_and : ℕ → List ℕ → List ℕ → List ℕ
hands_and first holders rest =
    hand_and holders (clockwise first 0)
    (space ∷ hand_and holders (clockwise first 1)
    (space ∷ hand_and holders (clockwise first 2)
    (space ∷ hand_and holders (clockwise first 3) rest)))

unfoldable pub deal_line : ℕ → List ℕ → List ℕ
deal_line first holders = deal_tag ++ (letter_of seat_letters first ∷ 58 ∷ hands_and first holders tag_end)

-- words with a byte between
unfoldable pub joined_by : ℕ → List (List ℕ) → List ℕ
joined_by byte [] = []
joined_by byte (word ∷ []) = word
joined_by byte (word ∷ next ∷ words) = word ++ (byte ∷ joined_by byte (next ∷ words))

-- a line of words, one space between
abbrev pub row_line : (ℕ → List ℕ) → List ℕ → List ℕ
row_line word_of codes = joined_by space (map word_of codes)

-- four to a row; the last row may have fewer
unfoldable pub fours : List ℕ → List (List ℕ)
fours [] = []
fours (a ∷ []) = (a ∷ []) ∷ []
fours (a ∷ b ∷ []) = (a ∷ b ∷ []) ∷ []
fours (a ∷ b ∷ c ∷ []) = (a ∷ b ∷ c ∷ []) ∷ []
fours (a ∷ b ∷ c ∷ d ∷ codes) = (a ∷ b ∷ c ∷ d ∷ []) ∷ fours codes

-- the lines of calls, and of cards
abbrev pub call_lines : List ℕ → List (List ℕ)
call_lines calls = map (row_line call_word) (fours calls)

abbrev pub card_lines : List ℕ → List (List ℕ)
card_lines cards = map (row_line card_word) (fours cards)

-- the lines of Play
unfoldable pub play_lines : Listed → List (List ℕ)
play_lines absent = []
play_lines (columns seat cards) = seat_line play_tag seat ∷ card_lines cards

-- the lines of a game
unfoldable pub game_lines : Game → List (List ℕ)
game_lines x =
    board_line x.board
    ∷ deal_line x.first x.holders
    ∷ seat_line auction_tag x.caller
    ∷ (call_lines x.calls ++ play_lines x.play)

-- lines as bytes, each ended by a newline
unfoldable pub ended : List (List ℕ) → List ℕ
ended [] = []
ended (line ∷ lines) = line ++ (newline ∷ ended lines)

-- the text of a game
unfoldable pub text : Game → List ℕ
text x = ended (game_lines x)

-- a text is of the subset: it is the text of what can stand in one
abbrev pub OfSubset : List ℕ → Type 0
OfSubset t = (x : Game) × Sayable x × (t ≡ text x)
