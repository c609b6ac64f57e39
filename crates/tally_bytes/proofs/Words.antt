-- A score and its 16 bits. Assumes nothing.
use Prim.Native.Nat.{ℕ, suc, ◌-◌}
use native.Mathlib.Omega.{arith}
use mathlib.Core.Path.{◌≡◌, refl}
use lib.IntN.{ℤ, pos, negsuc}
use mir.Syntax.{w16}
use mir.Val.{SFits, to_z, of_z}
use Rattle.laws.specs.Judgement.{twos_complement}
use Rattle.tally.specs.InBytes.{signed}

pub score_word : (n : ℕ) → to_z w16 n ≡ signed n
unfolding signed
score_word n = let e : 65536 - suc n ≡ 65535 - n = omega arith in rw e

pub word_score : (z : ℤ) → SFits w16 z → of_z w16 z ≡ twos_complement z
unfolding twos_complement
word_score (pos n) f = refl
word_score (negsuc n) f = refl
