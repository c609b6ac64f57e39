-- The points of Law 77: bounds for every stake whose level fits a byte, and the score made or down. Assumes nothing.
use Rattle.std.specs.Prelude.{if◌then◌else◌}
use Prim.Native.Nat.{ℕ, zero, suc, ◌≤◌, ◌<◌, ◌+◌, ◌-◌, ◌*◌}
use native.Mathlib.Nat.{mul-le-mul}
use native.Mathlib.Omega.{arith}
use mathlib.Core.Path.{◌≡◌, ap}
use mathlib.Core.Bool.{Bool, true, false}
use borrow.Author.Tests.{le-leb, lt-leb}
use lib.Dec.{eqb, ltb, leb}
use lib.IntN.{pos, neg_ℤ}
use Rattle.laws.specs.Law77.{Stake, by_vulnerability, by_doubling, trick_value, first_trick_value, trick_points, overtrick_value, doubled_undertrick, undertrick_value}
use Rattle.laws.specs.Law77.{undertricks, is_game, part_score_points, game_points, slam_points, doubling_points, is_made, overtrick_points, undertrick_points}
use Rattle.laws.specs.Law77.{declarer_score}
use Rattle.law77.specs.Scoring.{made_points}

-- either of two numbers is at most what both are
either-le : (b : Bool) (x y n : ℕ) → x ≤ n → y ≤ n → (if b then x else y) ≤ n
either-le true x y n h k = h
either-le false x y n h k = k

vulnerability-le : (s : Stake) (x y n : ℕ) → x ≤ n → y ≤ n → by_vulnerability s x y ≤ n
vulnerability-le s x y n h k = either-le s.vulnerable y x n k h

doubling-le : (s : Stake) (x y z n : ℕ) → x ≤ n → y ≤ n → z ≤ n → by_doubling s x y z ≤ n
doubling-le s x y z n h k l = either-le (eqb s.doubling 0) x _ n h (either-le (eqb s.doubling 1) y z n k l)

pub value-le : (strain : ℕ) → trick_value strain ≤ 30
unfolding trick_value
value-le strain = either-le (ltb strain 2) 20 30 30 (omega arith) (omega arith)

pub first-le : (strain : ℕ) → first_trick_value strain ≤ 40
unfolding first_trick_value
first-le strain = either-le (eqb strain 4) 40 _ 40 (omega arith) (omega (arith, value-le strain))

pub factor_le : (s : Stake) → by_doubling s 1 2 4 ≤ 4
factor_le s = doubling-le s 1 2 4 4 (omega arith) (omega arith) (omega arith)

-- the odd tricks after the first
pub later-le : (level strain : ℕ) → level < 256 → (level - 1) * trick_value strain ≤ 7620
later-le level strain h = mul-le-mul {n₁ = level - 1} {n₂ = 254} (omega arith) (value-le strain)

pub points-le : (s : Stake) → s.level < 256 → trick_points s ≤ 30640
unfolding trick_points
points-le s h =
    mul-le-mul {n₁ = first_trick_value s.strain + (s.level - 1) * trick_value s.strain} {n₂ = 7660}
    (omega (arith, first-le s.strain, later-le s.level s.strain h)) (factor_le s)

pub overtrick_le : (s : Stake) → overtrick_value s ≤ 400
unfolding overtrick_value
overtrick_le s =
    doubling-le s _ _ _ 400 (omega (arith, value-le s.strain)) (vulnerability-le s 100 200 400 (omega arith) (omega arith))
    (vulnerability-le s 200 400 400 (omega arith) (omega arith))

pub overtricks-le : (s : Stake) (over : ℕ) → over < 4294967296 → over * overtrick_value s ≤ 4294967296 * 400
overtricks-le s over h = mul-le-mul {n₁ = over} {n₂ = 4294967296} (omega arith) (overtrick_le s)

pub doubled_le : (s : Stake) (k : ℕ) → doubled_undertrick s k ≤ 300
unfolding doubled_undertrick
doubled_le s k =
    vulnerability-le s _ _ 300 (either-le (eqb k 1) 100 _ 300 (omega arith) (either-le (leb k 3) 200 300 300 (omega arith) (omega arith)))
    (either-le (eqb k 1) 200 300 300 (omega arith) (omega arith))

pub undertrick_le : (s : Stake) (k : ℕ) → undertrick_value s k ≤ 600
unfolding undertrick_value
undertrick_le s k =
    doubling-le s _ _ _ 600 (vulnerability-le s 50 100 600 (omega arith) (omega arith)) (omega (arith, doubled_le s k)) (omega (arith, doubled_le s k))

pub undertricks-le : (s : Stake) (n : ℕ) → undertricks s n ≤ 600 * n
unfolding undertricks
undertricks-le s zero = omega arith
undertricks-le s (suc n) = omega (arith, undertricks-le s n, undertrick_le s (suc n))

pub part_le : (s : Stake) → part_score_points s ≤ 50
unfolding part_score_points
part_le s = either-le (is_game s) 0 50 50 (omega arith) (omega arith)

pub game-le : (s : Stake) → game_points s ≤ 500
unfolding game_points
game-le s = either-le (is_game s) _ 0 500 (vulnerability-le s 300 500 500 (omega arith) (omega arith)) (omega arith)

pub slam-le : (s : Stake) → slam_points s ≤ 1500
unfolding slam_points
slam-le s =
    either-le (eqb s.level 6) _ _ 1500 (vulnerability-le s 500 750 1500 (omega arith) (omega arith))
    (either-le (eqb s.level 7) _ 0 1500 (vulnerability-le s 1000 1500 1500 (omega arith) (omega arith)) (omega arith))

pub insult_le : (s : Stake) → doubling_points s ≤ 100
unfolding doubling_points
insult_le s = doubling-le s 0 50 100 100 (omega arith) (omega arith) (omega arith)

-- ---- the score, made or down
pub made_score : (s : Stake) (tricks : ℕ) → s.level + 6 ≤ tricks → pos (made_points s (tricks - (s.level + 6))) ≡ declarer_score s tricks
unfolding made_points declarer_score is_made overtrick_points
made_score s tricks h = rw (le-leb (s.level + 6) tricks h) (ap pos (omega arith))

pub down-score : (s : Stake) (tricks : ℕ) → tricks < s.level + 6 → neg_ℤ (pos (undertricks s (s.level + 6 - tricks))) ≡ declarer_score s tricks
unfolding declarer_score is_made undertrick_points
down-score s tricks h = rw (lt-leb (s.level + 6) tricks h)

pub made_le : (s : Stake) (over : ℕ) → s.level < 256 → over < 4294967296 → made_points s over ≤ 2000000000000
unfolding made_points
made_le s over h k =
    omega (arith, points-le s h, mul-le-mul {n₁ = over} {n₂ = 4294967296} (omega arith) (overtrick_le s), part_le s, game-le s, slam-le s, insult_le s)
