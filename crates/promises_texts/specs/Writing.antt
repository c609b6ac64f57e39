-- Writing a record from its contents: what the writer says of any contents, given a buffer of any length (`room`), and what it leaves in the buffer.
-- `judge_write_record` returns `number_of (write_of c room)` and leaves `record_left (write_of c room) old`, c being the contents and old the buffer as it is lent.
-- Contents give the plays as a flat list of numbers; `given_of p` are the parts p so given.
-- Assumes nothing.
use Rattle.std.specs.Prelude.{ℕ, ◌≤◌, ◌<◌, min, ◌≡◌, ◌↔◌, ◌⊎◌, true, false, List, [], ◌∷◌, ◌++◌, reverse, length, get_or, take, drop}
use Rattle.laws.specs.Choice.{some}
use Rattle.laws.specs.Bytes.{Bytes}
use Rattle.laws.specs.Refusals.{accepted as no-refusal, short_buffer, record_ends, no_board_or_table, not_thirteen, no_call, too_many_cards, no_card, claim_too_many}
use Rattle.laws.specs.Refusals.{not_padding, not_exposable, choice_not_open, too_many_codes, short_record_buffer, too_many_calls, refuses_contents}
use Rattle.laws.specs.Cards.{no_seat}
use Rattle.laws.specs.Law2.{dealer}
use Rattle.laws.specs.Auction.{allowed, passed_out, trump_after, opening_after}
use Rattle.laws.specs.Law44.{tricks_left}
use Rattle.laws.specs.Events.{Event, exposure_code, choice_code, begins_code, cards_of, cards_among, codes_of}
use Rattle.laws.specs.CodeRefusal.{most_codes, event_refusal}
use Rattle.laws.specs.FlatPlay.{Item, event, items_of, cards_in, is_broken, is_misplaced, flat_of}
use Rattle.laws.specs.Plays.{EachStands, CardsFollow}
use Rattle.laws.specs.Law68.{agreed, at_claim_point}
use Rattle.laws.specs.Record.{Parts, encode}
use Rattle.laws.specs.Reading.{Reading.refused as stopped, ◌>>=◌, ◌>>◌, give}
use Rattle.laws.specs.Checks.{Check}
use Rattle.laws.specs.Judge.{Outcome.refused as declined, Outcome.accepted, Rooms, Enough, judge_of}
use Rattle.laws.specs.Lawful.{Lawful, Dealt, Called, Played, first_of}
use Rattle.laws.specs.Contents.{Given, given_of, Fits, take_heading, take_deal, take_calls, take_cards, take_parts}
use Rattle.laws.specs.Writing.{refused, written, write_of, number_of, record_left}

-- ---- the sections of the contents, in the order in which they are checked
pub data Section : Type 0 where
  heading : Section
  deal : Section
  calls : Section
  cards : Section
  claim : Section

-- two contents are the same in every section up to one
abbrev pub Alike : Section → Given → Given → Type 0
Alike heading c e = (c.board ≡ e.board) × (c.table ≡ e.table)
Alike deal c e = (c.board ≡ e.board) × (c.table ≡ e.table) × (c.deal ≡ e.deal)
Alike calls c e = (c.board ≡ e.board) × (c.table ≡ e.table) × (c.deal ≡ e.deal) × (c.calls ≡ e.calls)
Alike cards c e = (c.board ≡ e.board) × (c.table ≡ e.table) × (c.deal ≡ e.deal) × (c.calls ≡ e.calls) × (c.plays ≡ e.plays)
Alike claim c e = c ≡ e

-- the checks up to a section
unfoldable pub checks_to : Section → Given → Check
checks_to heading c = take_heading c.board c.table
checks_to deal c = do
  take_heading c.board c.table
  take_deal c.deal
checks_to calls c = do
  take_heading c.board c.table
  take_deal c.deal
  h ← take_calls (dealer c.board) c.calls
  give tt
checks_to cards c = do
  take_heading c.board c.table
  take_deal c.deal
  h ← take_calls (dealer c.board) c.calls
  g ← take_cards (dealer c.board) c.deal h c.plays
  give tt
checks_to claim c = do
  same ← take_parts c
  give tt

-- ---- sections that are in order
-- the parts that contents are, with the plays as events
abbrev pub with_plays : Given → List Event → Parts
with_plays c plays = record { board = c.board; table = c.table; deal = c.deal; calls = c.calls; plays = plays; claim = c.claim }

pub record HeadingStands (c : Given) : Type 0 where
  pub board_from : 1 ≤ c.board
  pub board_to : c.board ≤ 127
  pub table_from : 1 ≤ c.table
  pub table_to : c.table ≤ 511

pub record DealStands (c : Given) : Type 0 where
  pub heading : HeadingStands c
  pub holders : length c.deal ≡ 52
  pub holder : (k : ℕ) → k < 52 → get_or c.deal k 0 ≤ 3
  pub thirteen : Dealt (with_plays c [])

pub record CallsStand (c : Given) : Type 0 where
  pub dealt : DealStands c
  pub few : length c.calls ≤ 511
  pub called : Called (with_plays c [])

pub record CardsStand (c : Given) (plays : List Event) : Type 0 where
  pub calls : CallsStand c
  pub same : c.plays ≡ flat_of plays
  pub few : cards_among plays ≤ 52
  pub in_order : Played (with_plays c plays)

-- the first k codes are allowed, each after those before it
abbrev pub CallsTo : ℕ → Given → Type 0
CallsTo k c = (j : ℕ) → j < k → allowed (dealer c.board) (first_of j c.calls) (get_or c.calls j 0) ≡ true

abbrev pub trump_of : Given → ℕ
trump_of c = trump_after (reverse c.calls)

abbrev pub opening_of : Given → ℕ
opening_of c = opening_after (dealer c.board) (reverse c.calls)

-- the plays begin with events that may stand, and the numbers of l come after them; there are not too many cards
pub record PlaysTo (c : Given) (before : List Event) (l : List ℕ) : Type 0 where
  pub calls : CallsStand c
  pub split : c.plays ≡ flat_of before ++ l
  pub few : cards_in c.plays ≤ 52
  pub none_if_passed_out : passed_out (reverse c.calls) ≡ true → cards_in c.plays ≡ 0
  pub each : EachStands (trump_of c) (opening_of c) c.deal [] before
  pub codes : codes_of before ≤ most_codes
  -- a code among them has a card after it, before l or in l
  pub follow : CardsFollow before ⊎ (1 ≤ cards_in l)

-- ---- the plays, where events that may stand come first: the first number behind them that is refused, whatever follows, at the place of the next card
pub record BeyondPlays (c : Given) (room : ℕ) (before : List Event) : Type 0 where
  -- an event that is in its place is refused as it is in a record
  pub play : (l : List ℕ) → PlaysTo c before l → (v : Event) (rest : List Item) → items_of l ≡ event v ∷ rest → is_misplaced (event v) rest ≡ false
      → (n : ℕ) → event_refusal (trump_of c) (opening_of c) c.deal (reverse before) v ≡ n → (n ≡ no-refusal → ⊥)
      → write_of c room ≡ refused n (cards_among before)
  -- a number that is neither a card nor begins a code, over 63 too
  pub card : (k : ℕ) (l : List ℕ) → PlaysTo c before (k ∷ l) → 53 < k → write_of c room ≡ refused no_card (cards_among before)
  -- a code behind forty, whatever it is
  pub full : (x : ℕ) (l : List ℕ) → PlaysTo c before (x ∷ l) → begins_code x ≡ true → codes_of before ≡ most_codes
      → write_of c room ≡ refused too_many_codes (cards_among before)
  -- a code without its two numbers
  pub cut : (x : ℕ) (l : List ℕ) → PlaysTo c before (x ∷ l) → begins_code x ≡ true → codes_of before < most_codes → length l < 2
      → write_of c room ≡ refused choice_not_open (cards_among before)
  -- an exposure's bit over 1
  pub bit : (k bit : ℕ) (l : List ℕ) → PlaysTo c before (exposure_code ∷ k ∷ bit ∷ l) → codes_of before < most_codes → 1 < bit
      → write_of c room ≡ refused choice_not_open (cards_among before)
  -- a code that no card comes after
  pub last : (x y z : ℕ) (l : List ℕ) → PlaysTo c before (x ∷ y ∷ z ∷ l) → begins_code x ≡ true → codes_of before < most_codes → cards_in l ≡ 0
      → write_of c room ≡ refused choice_not_open (cards_among before)
  -- an exposure of what is no card, and a choice of no kind or no suit, over what their fields hold too
  pub exposure : (k bit : ℕ) (l : List ℕ) → PlaysTo c before (exposure_code ∷ k ∷ bit ∷ l) → codes_of before < most_codes → bit ≤ 1 → 1 ≤ cards_in l → 51 < k
      → write_of c room ≡ refused not_exposable (cards_among before)
  pub choice : (kind suit : ℕ) (l : List ℕ) → PlaysTo c before (choice_code ∷ kind ∷ suit ∷ l) → codes_of before < most_codes → 1 ≤ cards_in l
      → (1 < kind) ⊎ (3 < suit) → write_of c room ≡ refused choice_not_open (cards_among before)

-- ---- numbers that no field can hold, in the judge's order
pub record Beyond (c : Given) (room : ℕ) : Type 0 where
  pub board : 127 < c.board → write_of c room ≡ refused no_board_or_table 0
  pub table : 1 ≤ c.board → c.board ≤ 127 → 511 < c.table → write_of c room ≡ refused no_board_or_table 1
  -- another number of holders than 52, or a holder that is no seat
  pub holders : HeadingStands c → (length c.deal ≡ 52 → ⊥) → write_of c room ≡ refused not_thirteen no_seat
  pub holder : HeadingStands c → (k : ℕ) → k < length c.deal → 3 < get_or c.deal k 0 → write_of c room ≡ refused not_thirteen no_seat
  -- more codes of calls and marks than the count can tell, directly after the deal
  pub codes : DealStands c → 511 < length c.calls → write_of c room ≡ refused too_many_calls 511
  -- a code that is neither a call nor a mark, over 63 too
  pub call : DealStands c → length c.calls ≤ 511 → (k : ℕ) → k < length c.calls → CallsTo k c → 38 < get_or c.calls k 0
      → write_of c room ≡ refused no_call k
  -- more than 52 cards, or one where the board was passed out: their number, 63 where it is more
  pub cards : CallsStand c → (52 < cards_in c.plays) ⊎ ((passed_out (reverse c.calls) ≡ true) × (1 ≤ cards_in c.plays))
      → write_of c room ≡ refused too_many_cards (min (cards_in c.plays) 63)
  pub plays : (before : List Event) → BeyondPlays c room before
  -- a claim of more tricks than are left: the claim, 15 where it is more
  pub claim : (plays : List Event) → CardsStand c plays → passed_out (reverse c.calls) ≡ false → at_claim_point (cards_of (reverse plays)) ≡ true
      → (tricks : ℕ) → c.claim ≡ agreed tricks → tricks_left (cards_of (reverse plays)) < tricks
      → write_of c room ≡ refused claim_too_many (min tricks 15)

-- ---- the writer
pub record Writing : Type 0 where
  -- contents are written exactly when they give lawful parts and the buffer has room; what is written is the record of those parts
  pub writes : (c : Given) (room : ℕ) (bytes : List ℕ)
      → (write_of c room ≡ written bytes) ↔ ((p : Parts) × (c ≡ given_of p) × Lawful p × (length (encode p) ≤ room) × (bytes ≡ encode p))
  -- and contents give no two lawful parts
  pub one : (p q : Parts) → Lawful p → Lawful q → given_of p ≡ given_of q → p ≡ q
  -- a flat list without a broken code is the one of its events
  pub flat : (c : Given) → some is_broken (items_of c.plays) ≡ false → (p : Parts) × (c ≡ given_of p)
  -- lawful contents with too little room are 22, which comes last
  pub short : (p : Parts) (room : ℕ) → Lawful p → room < length (encode p) → write_of (given_of p) room ≡ refused short_record_buffer 0
  -- contents that fields can hold and that are not lawful: the writer's refusal and place are the judge's of their record
  pub agrees : (p : Parts) → Fits p → (Lawful p → ⊥) → (room : ℕ) (rooms : Rooms) → Enough rooms
      → (n : ℕ) × (place : ℕ) × (write_of (given_of p) room ≡ refused n place) × (judge_of (encode p) rooms ≡ declined n place)
  -- contents that are alike up to the section that is refused are refused alike, whatever follows
  pub prefix : (s : Section) (c e : Given) → Alike s c e → (n place : ℕ) → checks_to s c [] 0 ≡ stopped n place → (room : ℕ) → write_of e room ≡ refused n place
  pub beyond : (c : Given) (room : ℕ) → Beyond c room
  -- the judge accepts what is written, as these contents, and the contents of an accepted record are written to its bytes
  pub judged : (c : Given) (room : ℕ) (bytes : List ℕ) → write_of c room ≡ written bytes → (rooms : Rooms) → Enough rooms
      → (p : Parts) × (c ≡ given_of p) × (judge_of bytes rooms ≡ accepted p)
  pub rewritten : (bytes : List ℕ) → Bytes bytes → (rooms : Rooms) (p : Parts) → judge_of bytes rooms ≡ accepted p
      → (room : ℕ) → length bytes ≤ room → write_of (given_of p) room ≡ written bytes
  -- no refusal is 1, 2 or 16: the numbers are 3 to 15, 22 to 27 and 33, with a place below 1024
  pub never : (c : Given) (room n place : ℕ) → write_of c room ≡ refused n place → (refuses_contents n ≡ true) × (place < 1024)
  pub never_these : (refuses_contents short_buffer ≡ false) × (refuses_contents record_ends ≡ false) × (refuses_contents not_padding ≡ false)
  -- the number returned is below 1024 exactly where bytes were written, and is then how many
  pub number : (c : Given) (room : ℕ) → (number_of (write_of c room) < 1024) ↔ ((bytes : List ℕ) × (write_of c room ≡ written bytes))
  pub count : (c : Given) (room : ℕ) (bytes : List ℕ) → write_of c room ≡ written bytes → number_of (write_of c room) ≡ length bytes
  -- the buffer keeps its bytes past the record; refused, all of them, and its length stays
  pub front : (c : Given) (old bytes : List ℕ) → write_of c (length old) ≡ written bytes
      → take (length bytes) (record_left (write_of c (length old)) old) ≡ bytes
  pub behind : (c : Given) (old bytes : List ℕ) → write_of c (length old) ≡ written bytes
      → drop (length bytes) (record_left (write_of c (length old)) old) ≡ drop (length bytes) old
  pub untouched : (c : Given) (old : List ℕ) (n place : ℕ) → write_of c (length old) ≡ refused n place → record_left (write_of c (length old)) old ≡ old
  pub same_length : (c : Given) (old : List ℕ) → length (record_left (write_of c (length old)) old) ≡ length old
