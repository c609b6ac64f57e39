-- What the two scoring units answer: IMPs of two scores, and sums of each unit, exact or not at all.
-- Assumes nothing.
use Rattle.std.specs.Prelude.{ℕ, ◌+◌, ◌^◌, Bool, ltb, ℤ, pos, negsuc, ◌+ℤ◌, Option, None, Some, Result, Ok, Err}
use Rattle.laws.specs.Fitting.{Fitting, fits, does_not_fit, where_fits}
use Rattle.laws.specs.Refusals.{Answer, refused, answered}
use Rattle.laws.specs.Refused.{number}
use Rattle.laws.specs.declared.Refusal.{Refusal}
use Rattle.score.specs.declared.Matchpoints.{Matchpoints}
use Rattle.score.specs.declared.Imps.{Imps}

-- what an answer to two scores stands for: a refusal by its number, or a number of IMPs
abbrev pub imp_answer : Result Imps Refusal → Answer ℤ
imp_answer (Ok i) = answered i.0
imp_answer (Err refusal) = refused (number refusal)

-- what an answer to a sum of IMPs stands for: the sum, or that it does not fit
abbrev pub imp_sum : Option Imps → Fitting ℤ
imp_sum (Some i) = fits i.0
imp_sum None = does_not_fit

-- what an answer to a sum of matchpoints stands for
abbrev pub matchpoint_sum : Option Matchpoints → Fitting ℕ
matchpoint_sum (Some m) = fits m.0
matchpoint_sum None = does_not_fit

-- a number of IMPs is held from -2^31 to 2^31 - 1
unfoldable pub imps_fit : ℤ → Bool
imps_fit (pos n) = ltb n (2 ^ 31)
imps_fit (negsuc n) = ltb n (2 ^ 31)

-- the sum of IMPs itself, or that it does not fit
unfoldable pub imps_added : ℤ → ℤ → Fitting ℤ
imps_added a b = where_fits (imps_fit (a +ℤ b)) (a +ℤ b)

-- the sum of matchpoints itself, or that it does not fit below 2^32
unfoldable pub matchpoints_added : ℕ → ℕ → Fitting ℕ
matchpoints_added a b = where_fits (ltb (a + b) (2 ^ 32)) (a + b)
