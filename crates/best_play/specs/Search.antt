-- The search for best play on the position that the code keeps. Assumes nothing.
use Rattle.std.specs.Prelude.{ℕ, zero, suc, ◌+◌, ◌-◌, ◌%◌, max, min, Bool, true, false, not, ◌&&◌, eqb, leb, ltb, if◌then◌else◌}
use Rattle.laws.specs.Cards.{suit_of, dealt_to}
use Rattle.laws.specs.BestPlay.{greatest, smallest}
use Rattle.play.specs.declared.Play.{Play}
use Rattle.play.specs.Position.{turn_of, could_follow, leads, step}

-- the nearest number to x from a floor to a ceiling
unfoldable pub within : ℕ → ℕ → ℕ → ℕ
within floor ceiling x = max floor (min ceiling x)

-- the card may be played: the seat at turn holds it, and leads, follows, or has no card of the suit led
unfoldable pub may_in : Play → ℕ → Bool
may_in p card =
    if leb 52 card then false
    else if not (eqb (dealt_to p.holders card) (turn_of p)) then false
    else if leads p then true
    else if eqb (suit_of card) p.led then true
    else not (could_follow p)

-- what the card gained that led to the position
unfoldable pub gain_in : ℕ → Play → ℕ
gain_in side after = if leads after && eqb (after.leader % 2) side then 1 else 0

-- a player of the side is at turn
unfoldable pub ours_in : ℕ → Play → Bool
ours_in side p = eqb (turn_of p % 2) side

module _ (side : ℕ) where
  unfoldable mutual
    pub most_in : ℕ → Play → ℕ
    most_in zero p = 0
    most_in (suc left) p =
        greatest (may_in p) (λ c. gain_in side (step p c) + (if ours_in side (step p c) then most_in left (step p c) else least_in left (step p c))) 52

    pub least_in : ℕ → Play → ℕ
    least_in zero p = 0
    least_in (suc left) p =
        smallest (may_in p) (λ c. gain_in side (step p c) + (if ours_in side (step p c) then most_in left (step p c) else least_in left (step p c))) 52

  -- the most where a player of the side is at turn, and else the least
  abbrev pub value_in : ℕ → Play → ℕ
  value_in left p = if ours_in side p then most_in left p else least_in left p

  -- the tricks that the side takes of those left
  unfoldable pub best_in : Play → ℕ
  best_in p = if ltb 52 p.played then 0 else value_in (52 - p.played) p
