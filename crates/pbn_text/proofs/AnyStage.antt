-- A line at any stage: which of the lines of a text it is. Assumes nothing.
use Rattle.std.specs.Prelude.{ℕ, ◌≡◌, List, Option}
use Rattle.std.proofs.Common.{refl, sym, ap, ◌∙◌, subst}
use Rattle.laws.specs.PbnText.{Game}
use Rattle.laws.specs.PbnReading.{board, deal, auction, first_calls, calls, calls_over, cards, line_in}
use Rattle.laws.specs.PbnReading as Reading
use Rattle.pbn_text.specs.declared.state.Stage.{Stage}
use Rattle.pbn_text.specs.declared.state.Text.{Text}
use Rattle.pbn_text.specs.TextOf.{stage_of, stage_in, text_of, kept_after, Lists}
use Rattle.pbn_text.proofs.Stepping.{at}

pub same_stage : (stage : Reading.Stage) → stage ≡ stage_in (stage_of stage)
same_stage board = refl
same_stage deal = refl
same_stage auction = refl
same_stage first_calls = refl
same_stage calls = refl
same_stage calls_over = refl
same_stage (cards n) = refl

module _ (t : Text) (stage : Reading.Stage) (x : Game) (e : t ≡ text_of (at stage x)) where
  pub stage-is : stage ≡ stage_in t.stage
  unfolding text_of
  stage-is = same_stage stage ∙ ap (λ (t : Text). stage_in t.stage) (sym e)

  -- the stage is told, and what is so of a line at that one is so
  pub at_stage : (k : Stage) → t.stage ≡ k → (line : List ℕ) (r : Option Text)
      → (t ≡ text_of (at (stage_in k) x) → Lists (stage_in k) x → r ≡ kept_after (line_in (stage_in k) x line))
      → Lists stage x → r ≡ kept_after (line_in stage x line)
  at_stage k z line r f =
      subst (λ (s : Reading.Stage). t ≡ text_of (at s x) → Lists s x → r ≡ kept_after (line_in s x line)) (sym (stage-is ∙ ap stage_in z)) f e
