-- `score_word` meets its contract. Assumes nothing.
use Rattle.std.proofs.Common.{ap, ◌∙◌, ◌-◌, ℕ}
use native.Mathlib.Omega.{arith}
use mir.Facts.{to_z-of_z}
use Rattle.judgement.proofs.Settling.{word_up, word_down}
use Rattle.judgement.proofs.settle.score_word.Goals as goal

pub returns-then-score-ge0 : goal.returns-then-score-ge0
returns-then-score-ge0 c =
    let size = rw (to_z-of_z c.ranges.score) at c.unsigned_abs-size.ensures.value in
    (size ∙ word_up c.args.score (rw (to_z-of_z c.ranges.score) at c.if-score-ge0.true), omega (arith, size, c.requires))

pub returns : goal.returns
returns c =
    let size = rw (to_z-of_z c.ranges.score) at c.unsigned_abs-size.ensures.value in
    let down = word_down c.args.score (rw (to_z-of_z c.ranges.score) at c.if-score-ge0.false) in
    (c.saturating_sub.ensures ∙ ap (λ (n : ℕ). 65536 - n) size ∙ down, omega (arith, c.saturating_sub.ensures))
