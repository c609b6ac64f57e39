-- The table record: its parts, their layout as fields of so many bits, and the bytes that they make.
-- Fields follow one another, the most significant bit first, with no gaps.
-- Assumes nothing.
use Rattle.std.specs.Prelude.{ℕ, zero, suc, ◌+◌, ◌-◌, ◌*◌, ◌/◌, ◌%◌, ◌^◌, List, [], ◌∷◌, ◌++◌, length, if◌then◌else◌}
use Rattle.laws.specs.Events.{Event, played, exposed, choice, exposure_code, choice_code, cards_among}
use Rattle.laws.specs.Law68.{Claim, none, agreed}

-- what a record says: the holder of card 0, 1, .. 51, the calls in their order, the cards and the codes before them in their order, and the claim
pub record Parts : Type 0 where
  pub board : ℕ
  pub table : ℕ
  pub deal : List ℕ
  pub calls : List ℕ
  pub plays : List Event
  pub claim : Claim

-- a field: its width in bits, and its value
pub record Field : Type 0 where
  pub width : ℕ
  pub value : ℕ

abbrev pub field : ℕ → ℕ → Field
field w v = record { width = w; value = v }

-- fields of one width, one after the other
unfoldable pub row : ℕ → List ℕ → List Field
row w [] = []
row w (v ∷ vs) = field w v ∷ row w vs

-- the fields of an event: a card; a code, the exposed card, and 1 for deliberately; a code, the kind of the choice, and its suit
unfoldable pub event_fields : Event → List Field
event_fields (played c) = field 6 c ∷ []
event_fields (exposed c deliberate) = field 6 exposure_code ∷ field 6 c ∷ field 1 (if deliberate then 1 else 0) ∷ []
event_fields (choice kind suit) = field 6 choice_code ∷ field 2 kind ∷ field 2 suit ∷ []

-- the fields of plays in their order
unfoldable pub play_fields : List Event → List Field
play_fields [] = []
play_fields (v ∷ plays) = event_fields v ++ play_fields plays

-- the claim's mark, and the claim where it is marked
unfoldable pub claim_fields : Claim → List Field
claim_fields none = field 1 0 ∷ []
claim_fields (agreed tricks) = field 1 1 ∷ field 4 tricks ∷ []

-- the fields of a record, up to the padding; the play count counts cards alone
unfoldable pub layout : Parts → List Field
layout p =
    field 7 p.board
    ∷ field 9 p.table
    ∷ row 2 p.deal
    ++ (field 9 (length p.calls)
    ∷ row 6 p.calls
    ++ (field 6 (cards_among p.plays)
    ∷ play_fields p.plays
    ++ claim_fields p.claim))

-- how many bits the fields take
unfoldable pub bits : List Field → ℕ
bits [] = 0
bits (f ∷ fs) = f.width + bits fs

-- zero bits up to the end of the byte
unfoldable pub padding : ℕ → Field
padding n = field ((8 - n % 8) % 8) 0

unfoldable pub padded : List Field → List Field
padded fs = fs ++ (padding (bits fs) ∷ [])

-- the fields as one binary number, the first field in front
unfoldable pub number : List Field → ℕ
number [] = 0
number (f ∷ fs) = f.value * 2 ^ bits fs + number fs

-- the last n bytes of a number, the most significant first
unfoldable pub bytes_of : ℕ → ℕ → List ℕ
bytes_of zero x = []
bytes_of (suc n) x = x / 2 ^ (8 * n) % 256 ∷ bytes_of n x

-- fields that fill whole bytes, eight bits to a byte
unfoldable pub packed : List Field → List ℕ
packed fs = bytes_of (bits fs / 8) (number fs)

-- the bytes of a record
unfoldable pub encode : Parts → List ℕ
encode p = packed (padded (layout p))
