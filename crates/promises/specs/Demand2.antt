-- Demand 2, which records are accepted, and demand 1 of the number: what the judge says of every list of bytes, with lent buffers of any lengths (`rooms`).
-- Assumes nothing.
use Rattle.std.specs.Prelude.{ℕ, ◌+◌, ◌*◌, ◌≤◌, ◌<◌, ◌≡◌, ◌↔◌, ◌⊎◌, true, false, List, [], ◌∷◌, ◌++◌, reverse, length, take, replicate}
use Rattle.laws.specs.Bytes.{Bytes}
use Rattle.laws.specs.Refusals.{refuses_record, short_buffer, card_not_held, card_already_played}
use Rattle.laws.specs.Cards.{north, east, south, west, dealt_to}
use Rattle.laws.specs.Auction.{pass, passed_out}
use Rattle.laws.specs.Law44.{to_play, is_played}
use Rattle.laws.specs.CardRefusal.{card_refusal}
use Rattle.laws.specs.Events.{as_events}
use Rattle.laws.specs.Law68.{none, agreed}
use Rattle.laws.specs.Record.{Parts, encode}
use Rattle.laws.specs.Judge.{Outcome.refused, Outcome.accepted, Rooms, least_rooms, Enough, judge_of, number_of}
use Rattle.laws.specs.Lawful.{Lawful}

-- a number that is a refusal of a record, 1 to 16 or 23 to 27, × 1024, and a place below 1024
pub record Refusal (number : ℕ) : Type 0 where
  pub refusal : ℕ
  pub place : ℕ
  pub is : number ≡ refusal * 1024 + place
  pub of_record : refuses_record refusal ≡ true
  pub places : place < 1024

-- the first record of docs/RULES.md's examples: North holds the clubs, East the diamonds, South the hearts, West the spades, and four players pass
abbrev pub four_passes : List ℕ
four_passes =
    0x02 ∷ 0x01 ∷ 0x00 ∷ 0x00 ∷ 0x00 ∷ 0x15 ∷ 0x55 ∷ 0x55 ∷ 0x5A ∷ 0xAA ∷ 0xAA ∷ 0xAB ∷ 0xFF ∷ 0xFF ∷ 0xFF ∷ 0x02 ∷ 0x00 ∷ 0x00 ∷ 0x00 ∷ 0x00 ∷ []

-- that deal, as the holder of each card
abbrev pub one_suit_each : List ℕ
one_suit_each = replicate 13 north ++ (replicate 13 east ++ (replicate 13 south ++ replicate 13 west))

abbrev pub passed_out_parts : Parts
passed_out_parts = record { board = 1; table = 1; deal = one_suit_each; calls = pass ∷ pass ∷ pass ∷ pass ∷ []; plays = []; claim = none }

-- the same deal: North bids one club, East leads the two of diamonds to a first trick of twos, and so many tricks are claimed
abbrev pub one_club : ℕ → Parts
one_club tricks =
    record {
      board = 1;
      table = 1;
      deal = one_suit_each;
      calls = 3 ∷ pass ∷ pass ∷ pass ∷ [];
      plays = as_events (13 ∷ 26 ∷ 39 ∷ 0 ∷ []);
      claim = agreed tricks;
    }

-- the same without a claim: North has won that trick with the two of clubs and leads a fifth card
abbrev pub fifth_card : ℕ → Parts
fifth_card card =
    record {
      board = 1;
      table = 1;
      deal = one_suit_each;
      calls = 3 ∷ pass ∷ pass ∷ pass ∷ [];
      plays = as_events (13 ∷ 26 ∷ 39 ∷ 0 ∷ card ∷ []);
      claim = none;
    }

pub record Demand2Accepts : Type 0 where
  -- a record is accepted exactly when it is the encoding of lawful parts
  pub accepts : (bytes : List ℕ) → Bytes bytes → (rooms : Rooms) → Enough rooms
      → (number_of (judge_of bytes rooms) ≡ 0) ↔ ((p : Parts) × Lawful p × (bytes ≡ encode p))
  -- and as those parts
  pub accepts_parts : (bytes : List ℕ) → Bytes bytes → (rooms : Rooms) → Enough rooms → (p : Parts)
      → (judge_of bytes rooms ≡ accepted p) ↔ (Lawful p × (bytes ≡ encode p))
  -- the encoding of lawful parts is read back as them
  pub read_back : (p : Parts) → Lawful p → (rooms : Rooms) → Enough rooms → judge_of (encode p) rooms ≡ accepted p
  -- an encoding is bytes
  pub encoded_bytes : (p : Parts) → Bytes (encode p)
  -- no bytes are the encoding of two lawful parts
  pub unique : (p q : Parts) → Lawful p → Lawful q → encode p ≡ encode q → p ≡ q
  -- the number is 0 exactly when a record is accepted, and else a refusal and its place
  pub zero_accepts : (bytes : List ℕ) (rooms : Rooms) → (number_of (judge_of bytes rooms) ≡ 0) ↔ ((p : Parts) × (judge_of bytes rooms ≡ accepted p))
  pub zero_or_refusal : (bytes : List ℕ) (rooms : Rooms) → (number_of (judge_of bytes rooms) ≡ 0) ⊎ Refusal (number_of (judge_of bytes rooms))
  -- a buffer that is too short comes first: the answer's, then the list's, then that of the plays against 50C or 50D1, then the winners'
  pub short_answer : (bytes : List ℕ) (rooms : Rooms) → rooms.answer < 7 → judge_of bytes rooms ≡ refused short_buffer 0
  pub short_list : (bytes : List ℕ) (rooms : Rooms) → 7 ≤ rooms.answer → rooms.list < 48 → judge_of bytes rooms ≡ refused short_buffer 1
  pub short_failures : (bytes : List ℕ) (rooms : Rooms) → 7 ≤ rooms.answer → 48 ≤ rooms.list → rooms.failures < 52
      → judge_of bytes rooms ≡ refused short_buffer 2
  pub short_winners : (bytes : List ℕ) (rooms : Rooms) → 7 ≤ rooms.answer → 48 ≤ rooms.list → 52 ≤ rooms.failures → rooms.winners < 26
      → judge_of bytes rooms ≡ refused short_buffer 3
  -- an accepted record has at least 20 bytes
  pub at_least_20 : (bytes : List ℕ) → Bytes bytes → (rooms : Rooms) (p : Parts) → judge_of bytes rooms ≡ accepted p → 20 ≤ length bytes
  -- lawful parts that are passed out, in the bytes of docs/RULES.md; one byte less is 2, one more is 16
  pub passed_out_lem : Lawful passed_out_parts × (passed_out (reverse passed_out_parts.calls) ≡ true) × (four_passes ≡ encode passed_out_parts)
  pub one_byte_less : number_of (judge_of (take 19 four_passes) least_rooms) ≡ 2 * 1024
  pub one_byte_more : number_of (judge_of (four_passes ++ (0 ∷ [])) least_rooms) ≡ 16 * 1024
  -- lawful parts with a contract and a claim of 12; a claim of 13 is 15
  pub with_contract : Lawful (one_club 12) × (passed_out (reverse (one_club 12).calls) ≡ false)
  pub one_too_many : number_of (judge_of (encode (one_club 13)) least_rooms) ≡ 15 * 1024 + 13
  -- after every play: a card is refused with 23 exactly when the seat at turn was dealt it and it has been played, and with 12 exactly when
  -- it was dealt to another seat, played or not
  pub already_played : (trump opening : ℕ) (deal g : List ℕ) (card : ℕ) → card < 52
      → (card_refusal trump opening deal g card ≡ card_already_played) ↔ ((dealt_to deal card ≡ to_play trump opening g) × (is_played g card ≡ true))
  pub anothers_card : (trump opening : ℕ) (deal g : List ℕ) (card : ℕ) → card < 52
      → (card_refusal trump opening deal g card ≡ card_not_held) ↔ (dealt_to deal card ≡ to_play trump opening g → ⊥)
  -- North's two of clubs a second time is 23; East's two of diamonds a second time is 12, and so is East's three of diamonds
  pub own_again : number_of (judge_of (encode (fifth_card 0)) least_rooms) ≡ 23 * 1024 + 4
  pub easts_again : number_of (judge_of (encode (fifth_card 13)) least_rooms) ≡ 12 * 1024 + 4
  pub easts : number_of (judge_of (encode (fifth_card 14)) least_rooms) ≡ 12 * 1024 + 4
