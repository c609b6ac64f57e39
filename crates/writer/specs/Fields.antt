-- The parts of a record from the numbers that are given to be written, their fields, and the bytes that they take.
-- Assumes nothing.
use Rattle.std.specs.Prelude.{ℕ, ◌+◌, ◌*◌, ◌/◌, min, List, [], ◌∷◌, Option, None, Some, eqb, if◌then◌else◌}
use Rattle.laws.specs.Events.{Event, exposure_code}
use Rattle.laws.specs.FlatPlay.{items_of, events_among}
use Rattle.laws.specs.Record.{Parts, Field, field, play_fields}
use Rattle.contents.specs.Given.{claimed}

-- the events of a flat list of plays
abbrev pub events_in : List ℕ → List Event
events_in plays = events_among (items_of plays)

-- the parts of a record from the numbers that are given
abbrev pub parts_of : ℕ → ℕ → List ℕ → List ℕ → List ℕ → Option ℕ → Parts
parts_of board table holders calls plays claim =
    record { board = board; table = table; deal = holders; calls = calls; plays = events_in plays; claim = claimed claim }

-- the fields of a code with the two numbers that follow it
unfoldable pub code_fields : ℕ → ℕ → ℕ → List Field
code_fields code first second =
    field 6 code ∷ (if eqb code exposure_code then (field 6 first ∷ field 1 second ∷ []) else (field 2 first ∷ field 2 second ∷ []))

-- the fields of a flat list of plays
unfoldable pub fields_of : List ℕ → List Field
fields_of plays = play_fields (events_in plays)

-- the bits of a claim: its mark, and four where there is one
abbrev pub claim_bits : Option ℕ → ℕ
claim_bits None = 1
claim_bits (Some tricks) = 5

-- the bytes of a record with so many calls and so many bits of plays: 135 bits of board, table, deal and counts, six for each call, those of the plays and
-- of the claim, and up to the byte's end. More calls than a record can count are taken as the greatest number that it can
unfoldable pub length_of : ℕ → ℕ → Option ℕ → ℕ
length_of calls plays claim = (135 + 6 * min calls 511 + plays + claim_bits claim + 7) / 8
