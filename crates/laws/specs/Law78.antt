-- Law 78: matchpoints (A) by comparison with every other result, and IMPs (B) by the scale. Scores are North-South's.
-- Both answer a refusal where a score isn't valid.
-- Assumes nothing.
use Rattle.std.specs.Prelude.{ℕ, ◌+◌, ◌-◌, ◌*◌, Bool, false, not, ◌&&◌, List, [], ◌∷◌, eqb, leb, ℤ, pos, negsuc, neg_ℤ, nat_abs, ◌-ℤ◌, length, get_or, if◌then◌else◌}
use Rattle.std.specs.Int.Signed.{lt_z}
use Rattle.laws.specs.Choice.{how_many}
use Rattle.laws.specs.Refusals.{Answer, refused, answered, invalid_score, score_not_in_tally}
use Rattle.laws.specs.Law77.{valid_score}

-- two scores are the same
abbrev pub same_score : ℤ → ℤ → Bool
same_score (pos a) (pos b) = eqb a b
same_score (pos a) (negsuc b) = false
same_score (negsuc a) (pos b) = false
same_score (negsuc a) (negsuc b) = eqb a b

-- how often a score stands in a list of results
unfoldable pub occurrences : ℤ → List ℤ → ℕ
occurrences score results = how_many (same_score score) results

-- 78A, one comparison: two matchpoints for a result below, one for an equal one
unfoldable pub comparison : ℤ → ℤ → ℕ
comparison score other = if lt_z other score then 2 else if same_score score other then 1 else 0

-- the comparisons of a score with each result of a list
unfoldable pub comparisons : ℤ → List ℤ → ℕ
comparisons score [] = 0
comparisons score (r ∷ results) = comparison score r + comparisons score results

-- the other results, for one result of the score: the list without that one
unfoldable pub others : ℤ → List ℤ → List ℤ
others score [] = []
others score (r ∷ results) = if same_score score r then results else (r ∷ others score results)

-- 78A: the matchpoints of North-South for one result of the score, compared with every other result
unfoldable pub ns_matchpoints : List ℤ → ℤ → ℕ
ns_matchpoints results score = comparisons score (others score results)

-- East-West have what is left of two for each comparison
unfoldable pub ew_matchpoints : List ℤ → ℤ → ℕ
ew_matchpoints results score = 2 * (length results - 1) - ns_matchpoints results score

-- the matchpoints of both sides for one result
pub record Points : Type 0 where
  pub ns : ℕ
  pub ew : ℕ

-- asked for a score in a list of results: 20 if it isn't valid, else 21 if the list does not have it, else 78A's for both sides
unfoldable pub matchpoints : List ℤ → ℤ → Answer Points
matchpoints results score =
    if not (valid_score score) then refused invalid_score
    else if eqb (occurrences score results) 0 then refused score_not_in_tally
    else answered (record { ns = ns_matchpoints results score; ew = ew_matchpoints results score })

-- 78B: the least difference in points worth 1, 2, .. 24 IMPs
unfoldable pub lower_ends : List ℕ
lower_ends =
    20 ∷ 50 ∷ 90 ∷ 130 ∷ 170 ∷ 220 ∷ 270 ∷ 320
    ∷ 370 ∷ 430 ∷ 500 ∷ 600 ∷ 750 ∷ 900 ∷ 1100 ∷ 1300
    ∷ 1500 ∷ 1750 ∷ 2000 ∷ 2250 ∷ 2500 ∷ 3000 ∷ 3500 ∷ 4000
    ∷ []

-- the k-th entry of the scale, k from 1 to 24
unfoldable pub lower_end : ℕ → ℕ
lower_end k = get_or lower_ends (k - 1) 0

-- the IMPs for the size of a difference: how many lower ends it reaches
unfoldable pub imps_for_size : ℕ → ℕ
imps_for_size size = how_many (λ end. leb end size) lower_ends

-- a number of the sign of z
abbrev pub with_sign_of : ℤ → ℕ → ℤ
with_sign_of (pos m) n = pos n
with_sign_of (negsuc m) n = neg_ℤ (pos n)

-- the IMPs of a difference, with its sign
unfoldable pub imps_of : ℤ → ℤ
imps_of difference = with_sign_of difference (imps_for_size (nat_abs difference))

-- asked for two scores: 20 if either isn't valid, else the IMPs of the first less the second
unfoldable pub imps : ℤ → ℤ → Answer ℤ
imps first second = if valid_score first && valid_score second then answered (imps_of (first -ℤ second)) else refused invalid_score

-- an answer with its number negated; a refusal stays
abbrev pub opposite : Answer ℤ → Answer ℤ
opposite (refused n) = refused n
opposite (answered z) = answered (neg_ℤ z)
