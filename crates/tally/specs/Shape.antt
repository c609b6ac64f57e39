-- A tally by its places: how many results of a score stand in them, and their shape.
-- Assumes nothing.
use Rattle.std.specs.Prelude.{ℕ, ◌≤◌, ◌<◌, ◌+◌, ◌≡◌, true, List, [], ◌∷◌, ℤ, pos, length, get_or, if◌then◌else◌}
use Rattle.std.specs.Int.Signed.{lt_z}
use Rattle.laws.specs.Law77.{valid_score}
use Rattle.laws.specs.Law78.{same_score}
use Rattle.tally.specs.declared.Tally.{Tally}

-- how many results of a score stand in the places
unfoldable pub count_at : ℤ → List ℤ → List ℕ → ℕ
count_at s [] cs = 0
count_at s (x ∷ ss) [] = 0
count_at s (x ∷ ss) (c ∷ cs) = (if same_score s x then c else 0) + count_at s ss cs

-- how many results of a score a tally has
abbrev pub count_in : Tally → ℤ → ℕ
count_in t s = count_at s t.scores t.counts

-- a tally of a board that carries a deal: 128 places, those used first, with valid scores that fall and counts of at least 1; those unused are zero
pub record Shape (t : Tally) (of : ℕ) (carried : List ℕ) : Type 0 where
  pub board : t.board ≡ of
  pub deal : t.deal ≡ carried
  pub scores : length t.scores ≡ 128
  pub counts : length t.counts ≡ 128
  pub used : ℕ
  pub within : used ≤ 128
  pub valid : (i : ℕ) → i < used → valid_score (get_or t.scores i (pos 0)) ≡ true
  pub falling : (i : ℕ) → i + 1 < used → lt_z (get_or t.scores (i + 1) (pos 0)) (get_or t.scores i (pos 0)) ≡ true
  pub counted : (i : ℕ) → i < used → 1 ≤ get_or t.counts i 0
  pub unused : (i : ℕ) → used ≤ i → (get_or t.scores i (pos 0) ≡ pos 0) × (get_or t.counts i 0 ≡ 0)
