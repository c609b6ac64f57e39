-- The calls on tallies in bytes, as C makes them: what each says for every argument, the number that it returns, and what it leaves in the buffer that it is
-- lent. A call says a refusal with its number and place, or the bytes that it writes.
-- Assumes nothing.
use Rattle.std.specs.Prelude.{ℕ, List, ◌∷◌, ◌++◌, ltb, eqb, ℤ, replicate, if◌then◌else◌}
use Rattle.std.specs.Float.{binary64}
use Rattle.std.specs.Float.Ieee.{to_bits}
use Rattle.laws.specs.Law78.{Points}
use Rattle.laws.specs.Lent.{◌over◌}
use Rattle.laws.specs.Percentages.{Cell, played, awarded, alone, award}
use Rattle.laws.specs.Record.{bytes_of}
use Rattle.laws.specs.Refusals.{Placed, refused_at, given, placed, refusal_number, accepted, short_buffer}
use Rattle.laws.specs.Tally.{Result}
use Rattle.tally.specs.InBytes.{tally_length, tally_bytes, tally_in}
use Rattle.tally.specs.Points.{matchpoints_of}
use Rattle.tally.specs.Tallies.{Tallied, fresh_of, add_of, merge_of}
use Rattle.percentages.specs.Cells.{cell_of_tally}
use Rattle.hundredths.specs.Shares.{BothShares, shares_of_tally}

-- ---- the number and the buffer
-- the number returned: 0, or refusal × 1024 + place
abbrev pub number_of : Placed (List ℕ) → ℕ
number_of (refused_at n place) = refusal_number n place
number_of (given bytes) = accepted

-- the buffer: as it was where the call is refused, else the bytes over its front
unfoldable pub buffer_left : Placed (List ℕ) → List ℕ → List ℕ
buffer_left (refused_at n place) old = old
buffer_left (given bytes) old = bytes over old

-- what is said given a buffer of so many bytes: 1 where it is shorter than what is written, before anything else
unfoldable pub in_room : ℕ → ℕ → Placed (List ℕ) → Placed (List ℕ)
in_room needed room said = if ltb room needed then refused_at short_buffer 0 else said

-- an answer as bytes
abbrev pub spelled : {A : Type 0} → (A → List ℕ) → Placed A → Placed (List ℕ)
spelled bytes (refused_at n place) = refused_at n place
spelled bytes (given a) = given (bytes a)

-- a score with the holders of the cards that were played
abbrev pub result_of : ℤ → List ℕ → Result
result_of score holders = record { score = score; deal = holders }

-- ---- calls that give a tally
-- what a call answers, as a refusal or the tally's bytes
unfoldable pub tallied : Tallied → Placed (List ℕ)
tallied r = if eqb r.refusal accepted then given (tally_bytes r.tally) else refused_at r.refusal r.place

-- a fresh tally of a board; the last argument, here and below, is how many bytes the lent buffer has
unfoldable pub fresh_call : ℕ → ℕ → Placed (List ℕ)
fresh_call board room = in_room tally_length room (tallied (fresh_of board))

-- a result added to a tally
unfoldable pub add_call : List ℕ → ℤ → List ℕ → ℕ → Placed (List ℕ)
add_call tally score holders room = in_room tally_length room (tallied (add_of (tally_in tally) (result_of score holders)))

-- two tallies merged
unfoldable pub merge_call : List ℕ → List ℕ → ℕ → Placed (List ℕ)
merge_call a b room = in_room tally_length room (tallied (merge_of (tally_in a) (tally_in b)))

-- ---- matchpoints
-- two bytes for each side
abbrev pub two_each : ℕ → ℕ → List ℕ
two_each ns ew = bytes_of 2 ns ++ bytes_of 2 ew

unfoldable pub points_bytes : Points → List ℕ
points_bytes p = two_each p.ns p.ew

-- the matchpoints of a result in a tally
unfoldable pub matchpoints_call : List ℕ → ℤ → List ℕ → ℕ → Placed (List ℕ)
matchpoints_call tally score holders room = in_room 4 room (spelled points_bytes (matchpoints_of (tally_in tally) (result_of score holders)))

-- ---- cells
-- a byte that is 0 played, 1 awarded or 2 alone, then the 64 bits of the float, the most significant first, zero when alone
unfoldable pub cell_bytes : Cell → List ℕ
cell_bytes (played x) = 0 ∷ bytes_of 8 (to_bits binary64 x)
cell_bytes (awarded x) = 1 ∷ bytes_of 8 (to_bits binary64 x)
cell_bytes alone = 2 ∷ replicate 8 0

-- an award of so many per cent
unfoldable pub award_call : ℕ → ℕ → Placed (List ℕ)
award_call percent room = in_room 9 room (spelled cell_bytes (placed (award percent)))

-- the cell of a result in a tally
unfoldable pub cell_call : List ℕ → ℤ → List ℕ → ℕ → Placed (List ℕ)
cell_call tally score holders room = in_room 9 room (spelled cell_bytes (cell_of_tally (tally_in tally) (result_of score holders)))

-- ---- shares
unfoldable pub shares_bytes : BothShares → List ℕ
shares_bytes s = two_each s.ns s.ew

-- the shares of both sides in a result of a tally, in hundredths of a per cent
unfoldable pub hundredths_call : List ℕ → ℤ → List ℕ → ℕ → Placed (List ℕ)
hundredths_call tally score holders room = in_room 4 room (spelled shares_bytes (shares_of_tally (tally_in tally) (result_of score holders)))
