-- What is promised of Portable Bridge Notation: which texts give a record, which record, and what is said of the others. `judge_read_pbn` returns
-- `number_of (read_pbn t table room)` and leaves `record_left (read_pbn t table room) old`, old being the buffer as it is lent and room its length; the program
-- prints `pbn_printed input`.
-- Assumes nothing.
use Rattle.std.specs.Prelude.{ℕ, ◌≤◌, ◌<◌, min, ◌≡◌, ◌⊎◌, ◌↔◌, true, false, List, [], ◌∷◌, ◌++◌, reverse, eqb, length, take, drop}
use Rattle.laws.specs.Choice.{some}
use Rattle.laws.specs.Refusals.{outside_subset, short_record_buffer, refuses_text}
use Rattle.laws.specs.Law2.{dealer}
use Rattle.laws.specs.Record.{Parts, encode}
use Rattle.laws.specs.Reading.{Reading.refused as stopped, Reading.found as passed}
use Rattle.laws.specs.Judge.{Outcome.accepted, Rooms, Enough, judge_of}
use Rattle.laws.specs.Lawful.{Lawful}
use Rattle.laws.specs.Contents.{take_heading}
use Rattle.laws.specs.Writing.{refused, written, write_of, number_of, record_left}
use Rattle.laws.specs.Sheet.{newline}
use Rattle.laws.specs.Slip.{refusal_line}
use Rattle.laws.specs.PbnText.{Game, Sayable, OfSubset, text}
use Rattle.laws.specs.PbnOrder.{order_of_play, columns_of}
use Rattle.laws.specs.PbnReading.{parse, game, StopsAt}
use Rattle.laws.specs.Pbn.{last_place, play_line, play_stands, pbn_outcome, read_pbn, contents_in, TagsStand, game_of, Plain}
use Rattle.laws.specs.PbnInput.{table_on, printed, most_input, over_line, pbn_printed}
use Rattle.promises_texts.specs.Writing.{Section, heading, calls, checks_to}

-- a text that gives a record: it is the text of lawful parts of that table, whichever seat its Deal tag starts from, and the record is theirs
pub record GivesRecord (t : List ℕ) (table room : ℕ) (bytes : List ℕ) : Type 0 where
  pub parts : Parts
  pub first : ℕ
  pub seat : first < 4
  pub lawful : Lawful parts
  pub plain : Plain parts
  pub says : t ≡ text (game_of parts first)
  pub at_table : parts.table ≡ table
  pub record_of : bytes ≡ encode parts
  pub enough : length (encode parts) ≤ room

-- what is said of the text of a game, in order: a refusal of board and table; Auction's seat; a refusal of deal or calls; Play and its seat; and then what the
-- writer says of the contents
pub record InOrder (x : Game) (table room : ℕ) : Type 0 where
  pub top : (n place : ℕ) → checks_to heading (contents_in x table) [] 0 ≡ stopped n place → read_pbn (text x) table room ≡ refused n place
  pub auction : checks_to heading (contents_in x table) [] 0 ≡ passed tt 0 → (x.caller ≡ dealer x.board → ⊥)
      → read_pbn (text x) table room ≡ refused outside_subset 3
  pub deal_and_calls : x.caller ≡ dealer x.board → (n place : ℕ) → checks_to calls (contents_in x table) [] 0 ≡ stopped n place
      → read_pbn (text x) table room ≡ refused n place
  pub play : x.caller ≡ dealer x.board → checks_to calls (contents_in x table) [] 0 ≡ passed tt 0
      → play_stands (dealer x.board) (reverse x.calls) x.play ≡ false → read_pbn (text x) table room ≡ refused outside_subset (play_line x.calls)
  pub others : TagsStand x → read_pbn (text x) table room ≡ write_of (contents_in x table) room

pub record Pbn : Type 0 where
  -- what stands in a text is read from it, and only from it
  pub read_back : (x : Game) → Sayable x → parse (text x) ≡ game x
  pub only_so : (t : List ℕ) (x : Game) → parse t ≡ game x → Sayable x × (t ≡ text x)
  -- columns to order of play and back are inverse to each other, for each seat and strain, on any cards
  pub order : (trump first : ℕ) → first < 4 → (cards : List ℕ)
      → (columns_of trump first (order_of_play trump first cards) ≡ cards) × (order_of_play trump first (columns_of trump first cards) ≡ cards)
  -- the text of lawful parts, whichever seat its Deal tag starts from, gives their record where there is room
  pub any_seat : (p : Parts) → Lawful p → Plain p → (first : ℕ) → first < 4 → (room : ℕ) → length (encode p) ≤ room
      → read_pbn (text (game_of p first)) p.table room ≡ written (encode p)
  -- and no other text gives a record
  pub same : (t : List ℕ) (table room : ℕ) (bytes : List ℕ) → read_pbn t table room ≡ written bytes → GivesRecord t table room bytes
  -- a text outside the subset has one line up to which no text of the subset agrees, and is refused there
  pub outside : (t : List ℕ) → OfSubset t ⊎ ((line : ℕ) × StopsAt t line)
  pub one_line : (t : List ℕ) (j k : ℕ) → StopsAt t j → StopsAt t k → j ≡ k
  pub refused_at_lem : (t : List ℕ) → (OfSubset t → ⊥) → (line : ℕ) → StopsAt t line → (table room : ℕ)
      → read_pbn t table room ≡ refused outside_subset (min line last_place)
  -- a text of the subset is refused in the order of the checks
  pub in_order : (x : Game) → Sayable x → (table room : ℕ) → InOrder x table room
  -- the judge accepts the record, as these parts
  pub judged : (t : List ℕ) (table room : ℕ) (bytes : List ℕ) → read_pbn t table room ≡ written bytes → (rooms : Rooms) → Enough rooms
      → (r : GivesRecord t table room bytes) × (judge_of bytes rooms ≡ accepted r.parts)
  -- a refusal's number is 3, 4, 6 to 9, 12, 22, 23, 32 or 33, and its place is below 1024
  pub numbers : (t : List ℕ) (table room n place : ℕ) → read_pbn t table room ≡ refused n place → (refuses_text n ≡ true) × (place < 1024)
  -- the number returned is below 1024 exactly where bytes were written, and is then how many: at most 296, so that a buffer of 296 is always long enough
  pub number : (t : List ℕ) (table room : ℕ) → (number_of (read_pbn t table room) < 1024) ↔ ((bytes : List ℕ) × (read_pbn t table room ≡ written bytes))
  pub count : (t : List ℕ) (table room : ℕ) (bytes : List ℕ) → read_pbn t table room ≡ written bytes → number_of (read_pbn t table room) ≡ length bytes
  pub short : (t : List ℕ) (table room : ℕ) (bytes : List ℕ) → read_pbn t table room ≡ written bytes → length bytes ≤ 296
  pub enough : (t : List ℕ) (table room place : ℕ) → 296 ≤ room → read_pbn t table room ≡ refused short_record_buffer place → ⊥
  -- the buffer keeps its bytes past the record; refused, all of them, and its length stays
  pub front : (t : List ℕ) (table : ℕ) (old bytes : List ℕ) → read_pbn t table (length old) ≡ written bytes
      → take (length bytes) (record_left (read_pbn t table (length old)) old) ≡ bytes
  pub behind : (t : List ℕ) (table : ℕ) (old bytes : List ℕ) → read_pbn t table (length old) ≡ written bytes
      → drop (length bytes) (record_left (read_pbn t table (length old)) old) ≡ drop (length bytes) old
  pub untouched : (t : List ℕ) (table : ℕ) (old : List ℕ) (n place : ℕ) → read_pbn t table (length old) ≡ refused n place
      → record_left (read_pbn t table (length old)) old ≡ old
  pub same_length : (t : List ℕ) (table : ℕ) (old : List ℕ) → length (record_left (read_pbn t table (length old)) old) ≡ length old

-- what the program prints of its input
pub record PbnProgram : Type 0 where
  -- of a line and a text behind it, what is said of the text at the line's table: the record's bytes, or the refusal
  pub prints : (line t : List ℕ) → some (λ b. eqb b newline) line ≡ false → length (line ++ (newline ∷ t)) ≤ most_input
      → pbn_printed (line ++ (newline ∷ t)) ≡ printed (pbn_outcome (parse t) (table_on line))
  pub record_printed : (t : List ℕ) (table room : ℕ) (bytes : List ℕ) → read_pbn t table room ≡ written bytes → printed (pbn_outcome (parse t) table) ≡ bytes
  pub refusal_printed : (t : List ℕ) (table n place : ℕ) → read_pbn t table 296 ≡ refused n place
      → printed (pbn_outcome (parse t) table) ≡ refusal_line n place
  -- without a newline there is no text
  pub no_line : (input : List ℕ) → some (λ b. eqb b newline) input ≡ false → length input ≤ most_input → pbn_printed input ≡ refusal_line outside_subset 1
  -- more bytes than are held are told; so the first 65,537 decide
  pub too_long : (input : List ℕ) → most_input < length input → pbn_printed input ≡ over_line
  pub first_bytes : (input : List ℕ) → pbn_printed (take 65537 input) ≡ pbn_printed input
