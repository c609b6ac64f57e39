-- An ending by what the position holds: whether the board was passed out, and the number of cards played.
-- Assumes nothing.
use Rattle.std.specs.Prelude.{ℕ, ◌%◌, Bool, not, ◌&&◌, leb, eqb}

abbrev pub ending_at : Bool → ℕ → Bool
ending_at out played = not out && (leb 36 played && eqb (played % 4) 0)
