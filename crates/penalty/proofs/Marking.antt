-- What the code makes of the words of faced and major cards is what its definition says: a law over variables. Assumes nothing.
use Prim.Native.Nat.{ℕ}
use mathlib.Core.Path.{◌≡◌}
use mathlib.Core.Bool.{Bool, true, not}
use lib.Bits.{bit_and, bit_or}
use Rattle.penalty.specs.declared.Penalty.{Penalty}
use Rattle.penalty.specs.declared.Turn.{Turn}
use Rattle.penalty.specs.Position.{obeying_in, excused_in, against_50d1, major_with}
use Rattle.penalty.specs.Words.{card_word, meets}

-- a card exposed beside another of its owner
pub all_shown : (p : Penalty) (own card : ℕ) (deliberate : Bool) {shown : ℕ} {others : Bool} → shown ≡ card_word card → others ≡ meets p.faced own
    → others ≡ true → bit_or (bit_or p.major (bit_and p.faced own)) shown ≡ major_with p own card deliberate
unfolding major_with
all_shown p own card deliberate es eo o = rw (← eo, o, es)

-- a major penalty card was due
pub due-other : (p : Penalty) (t : Turn) (card : ℕ) {obeying played : ℕ} {due this : Bool} → obeying ≡ obeying_in p t → played ≡ card_word card
    → due ≡ meets obeying p.major → due ≡ true → this ≡ meets (bit_and obeying p.major) played → not this ≡ against_50d1 p t card
unfolding against_50d1
due-other p t card eo ep ed d et = rw (et, ep, ← eo, ← ed, d)

-- a penalty card of the seat that obeys
pub excused_by : (p : Penalty) (t : Turn) {obeying : ℕ} {free : Bool} → obeying ≡ obeying_in p t → free ≡ meets obeying (bit_and p.faced t.hand)
    → free ≡ excused_in p t
unfolding excused_in
excused_by p t eo ef = rw (ef, eo)
