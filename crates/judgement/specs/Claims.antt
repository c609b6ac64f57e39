-- The claim: what the code says of its reading, a refusal with its place, or the tricks claimed where there is a claim; and the Laws' section by what it takes
-- of calls and cards. Assumes nothing.
use Rattle.std.specs.Prelude.{ℕ, ◌-◌, ◌/◌, Bool, not, ◌&&◌, ◌||◌, Option, None, Some, eqb, leb, if◌then◌else◌}
use Rattle.laws.specs.Refusals.{Placed, play_unfinished, no_claim_point, claim_too_many}
use Rattle.laws.specs.Law68.{Claim, none, agreed}
use Rattle.laws.specs.Reading.{Reading, Reader, ◌>>=◌, ◌>>◌, give, read, refuse}
use Rattle.claims.specs.Claims.{point_at}
use Rattle.last_card.specs.declared.reading.Read.{Read}
use Rattle.last_card.specs.Sections.{placed_read}

-- the tricks claimed, where there is a claim
abbrev pub claim_told : Claim → Option ℕ
claim_told none = None
claim_told (agreed tricks) = Some tricks

abbrev pub claim_of : Reading Claim → Placed (Read (Option ℕ))
claim_of r = placed_read claim_told r

-- the Laws' section, here and below, by whether the board was passed out and the number of cards played: no claim
unfoldable pub no_claim_by : Bool → ℕ → Reader Claim
no_claim_by out played = do
  refuse play_unfinished played (not out && not (eqb played 52))
  give none

-- a marked claim
unfoldable pub marked_by : Bool → ℕ → Reader Claim
marked_by out played = do
  refuse no_claim_point played (out || not (point_at played))
  tricks ← read 4
  refuse claim_too_many tricks (not (leb tricks (13 - played / 4)))
  give (agreed tricks)

-- the claim's mark, and the claim
unfoldable pub claim_by : Bool → ℕ → Reader Claim
claim_by out played = do
  mark ← read 1
  if eqb mark 0 then no_claim_by out played else marked_by out played
