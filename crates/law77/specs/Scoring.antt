-- The stake of the code as the Laws' stake, and the points of a contract that is made.
-- Assumes nothing.
use Rattle.std.specs.Prelude.{ℕ, ◌+◌, ◌*◌}
use Rattle.laws.specs.Law77 as Law
use Rattle.law77.specs.declared.law77.Stake.{Stake}

abbrev pub stake_of : Stake → Law.Stake
stake_of s = record { level = s.level; strain = s.strain; doubling = s.doubling; vulnerable = s.vulnerable }

-- trick points, overtricks and premiums, for so many overtricks
unfoldable pub made_points : Law.Stake → ℕ → ℕ
made_points s over =
    Law.trick_points s + over * Law.overtrick_value s + (Law.part_score_points s + Law.game_points s + Law.slam_points s + Law.doubling_points s)
