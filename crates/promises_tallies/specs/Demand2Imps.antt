-- Demand 2, IMPs: what is promised of the IMPs of any two scores, and of the scale of Law 78B.
-- An answer of `score::imps_of` is any that its contract allows: what it stands for is `imps` of the two scores.
-- Assumes nothing.
use Rattle.std.specs.Prelude.{ℕ, ◌≤◌, ◌<◌, ◌+◌, ◌≡◌, ◌⊎◌, true, false, ℤ, pos, neg_ℤ, ◌-ℤ◌, length}
use Rattle.laws.specs.Refusals.{refused, answered, invalid_score}
use Rattle.laws.specs.Law77.{valid_score}
use Rattle.laws.specs.Law78.{lower_ends, lower_end, imps_for_size, imps, opposite}
use Rattle.std.specs.Prelude as Std
use Rattle.laws.specs.declared.Refusal.{Refusal}
use Rattle.score.specs.declared.Imps.{Imps}
use Rattle.score.specs.Units.{imp_answer}

-- one of two scores isn't valid
abbrev pub EitherInvalid : ℤ → ℤ → Type 0
EitherInvalid first second = (valid_score first ≡ false) ⊎ (valid_score second ≡ false)

-- both are
pub record BothValid (first second : ℤ) : Type 0 where
  pub one : valid_score first ≡ true
  pub two : valid_score second ≡ true

-- an answer to two scores
pub record OfImps (first second : ℤ) (r : Std.Result Imps Refusal) : Type 0 where
  -- refused exactly when either score isn't valid, and with 20
  pub refuses : EitherInvalid first second → imp_answer r ≡ refused invalid_score
  pub refuses_only : (n : ℕ) → imp_answer r ≡ refused n → (n ≡ invalid_score) × EitherInvalid first second
  -- else the scale's IMPs of the size of the difference, positive where the first is above, negative where it is below
  pub above : (size : ℕ) → BothValid first second → first -ℤ second ≡ pos size → imp_answer r ≡ answered (pos (imps_for_size size))
  pub below : (size : ℕ) → BothValid first second → second -ℤ first ≡ pos size → imp_answer r ≡ answered (neg_ℤ (pos (imps_for_size size)))
  -- one of the two is so
  pub size : ℕ
  pub either : (first -ℤ second ≡ pos size) ⊎ (second -ℤ first ≡ pos size)
  -- the scores swapped give the negation
  pub swapped : (s : Std.Result Imps Refusal) → imp_answer s ≡ imps second first → imp_answer s ≡ opposite (imp_answer r)

-- the scale: 24 entries that rise, each the least size of a difference worth its number of IMPs
pub record Scale : Type 0 where
  pub entries : length lower_ends ≡ 24
  pub rises : (k : ℕ) → 1 ≤ k → k < 24 → lower_end k < lower_end (k + 1)
  pub worth : (k : ℕ) → 1 ≤ k → k ≤ 24 → imps_for_size (lower_end k) ≡ k
  pub least : (k size : ℕ) → 1 ≤ k → k ≤ 24 → imps_for_size size ≡ k → lower_end k ≤ size
  -- as a card prints it, from and to: below the first entry nothing, from an entry to below the next its number, from the last on 24
  pub none : (size : ℕ) → size < lower_end 1 → imps_for_size size ≡ 0
  pub between : (k size : ℕ) → 1 ≤ k → k < 24 → lower_end k ≤ size → size < lower_end (k + 1) → imps_for_size size ≡ k
  pub most : (size : ℕ) → lower_end 24 ≤ size → imps_for_size size ≡ 24

-- the claim on IMPs
pub record Demand2Imps : Type 0 where
  pub of_imps : (first second : ℤ) (r : Std.Result Imps Refusal) → imp_answer r ≡ imps first second → OfImps first second r
  -- what an answer stands for determines it
  pub one_answer : (r s : Std.Result Imps Refusal) → imp_answer r ≡ imp_answer s → r ≡ s
  pub scale : Scale
