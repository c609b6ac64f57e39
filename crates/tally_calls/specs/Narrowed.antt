-- Arguments of 32 bits as the library's own functions take them: what no board or score can be becomes one number that is refused too. Assumes nothing.
use Rattle.std.specs.Prelude.{ℕ, ◌||◌, ltb, ℤ, pos, negsuc, if◌then◌else◌}
use Rattle.std.specs.Int.Signed.{lt_z}

-- a board; 0 for one over 127
unfoldable pub narrow_board : ℕ → ℕ
narrow_board board = if ltb 127 board then 0 else board

-- a score; 1, which is no multiple of ten, for one below -7600 or above 7600
unfoldable pub narrow_score : ℤ → ℤ
narrow_score score = if lt_z score (negsuc 7599) || lt_z (pos 7600) score then pos 1 else score
