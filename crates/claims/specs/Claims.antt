-- Law 68 by the number of cards played.
-- Assumes nothing.
use Rattle.std.specs.Prelude.{ℕ, Bool, not, ◌&&◌, leb}

-- so many cards are neither none nor all
unfoldable pub point_at : ℕ → Bool
point_at played = leb 1 played && leb played 51

-- there is a contract, and a claim may stand after so many cards
unfoldable pub may_claim : Bool → ℕ → Bool
may_claim out played = not out && point_at played
