-- `narrow_score` meets its contract, by its tests. Assumes nothing.
use mathlib.Core.Path.{◌≡◌, sym}
use mir.Syntax.{w16}
use mir.Val.{SFits}
use mir.Facts.{to_z-of_z}
use Rattle.tally_calls.specs.Narrowed.{narrow_score}
use Rattle.tally_calls.proofs.Narrowing.{score-within}
use Rattle.tally_calls.proofs.narrow_score.Goals.{Else-score-gt7600}
use Rattle.tally_calls.proofs.narrow_score.Goals as goal

pub returns-then-score-ltminus7600 : goal.returns-then-score-ltminus7600
unfolding narrow_score
returns-then-score-ltminus7600 c = rw (rw (to_z-of_z c.ranges.score) at c.if-score-ltminus7600.true)

pub returns-then-score-gt7600 : goal.returns-then-score-gt7600
unfolding narrow_score
returns-then-score-gt7600 c =
    let e = to_z-of_z c.ranges.score in
    rw (rw e at c.if-score-ltminus7600.false, rw e at c.if-score-gt7600.true)

-- the score as it is held, within the range
within : (c : Else-score-gt7600) → let s = c.args.score in (narrow_score s ≡ s) × SFits w16 s
within c =
    let e = to_z-of_z c.ranges.score in
    score-within c.args.score (rw e at c.if-score-ltminus7600.false) (rw e at c.if-score-gt7600.false)

pub returns : goal.returns
returns c = rw (to_z-of_z c.ranges.score, to_z-of_z (within c).1) (sym (within c).0)
