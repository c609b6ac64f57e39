-- The Deal line. Who holds each card, byte by byte; and a line followed from its front: whether it was the same so far, and up to where. Assumes nothing.
use Rattle.std.specs.Prelude.{ℕ, ◌+◌, ◌-◌, ◌*◌, Bool, false, List, Option, Some, None, eqb, set, drop, if◌then◌else◌}
use Rattle.laws.specs.Cards.{clockwise, spades}
use Rattle.laws.specs.PbnText.{rank_letters, space, dot}
use Rattle.laws.specs.PbnReading.{same_bytes, place_among}
use Rattle.pbn_deal.specs.declared.held.Held.{Held}

-- the line was the same up to a place, and from there on it is these bytes
unfoldable pub follows : List ℕ → Option ℕ → List ℕ → Bool
follows line None bytes = false
follows line (Some at) bytes = same_bytes bytes (drop at line)

-- a rank goes to the seat
unfoldable pub with_rank : Held → ℕ → Held
with_rank h b = record { seat = h.seat; suit = h.suit; holders = set h.holders (13 * h.suit + place_among rank_letters b) h.seat }

-- one byte of the hands more
unfoldable pub with_byte : Held → ℕ → Held
with_byte h b =
    if eqb b space then record { seat = clockwise h.seat 1; suit = spades; holders = h.holders }
    else if eqb b dot then record { seat = h.seat; suit = h.suit - 1; holders = h.holders }
    else with_rank h b
