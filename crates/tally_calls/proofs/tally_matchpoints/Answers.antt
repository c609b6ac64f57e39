-- `tally_matchpoints` meets its contract: a short buffer first, then what the call answers for the tally read and the narrowed score. Assumes nothing.
use borrow.Author.Rules.{rules}
use mathlib.Core.Path.{refl, ap, ◌∙◌}
use mir.Syntax.{w16}
use mir.Val.{SFits}
use mir.Facts.{to_z-of_z}
use Rattle.tally.specs.InBytes.{tally_in}
use Rattle.matchpoints.specs.Points.{points_answer}
use Rattle.tally_calls.specs.Calls.{spelled, points_bytes, matchpoints_call}
use Rattle.tally_calls.proofs.Saying.{mapped, says-short, says-within}
use Rattle.tally_calls.proofs.Narrowing.{points_narrowed}
use Rattle.tally_calls.proofs.tally_matchpoints.Goals as goal

pub returns-then-points-lt4 : goal.returns-then-points-lt4
unfolding matchpoints_call
returns-then-points-lt4 c =
    let s = says-short 4 _ c.args.points.now c.if-points-lt4.true c.short.ensures in
    record { number = s.0; left = s.1 }

pub returns : goal.returns
unfolding matchpoints_call points_bytes
returns c =
    let fits : SFits w16 c.narrow_score.result = search rules in
    let asked = rw (to_z-of_z fits, c.narrow_score.ensures, to_z-of_z c.ranges.score, c.read.ensures) at c.matchpoints-answer.ensures
    ∙ points_narrowed (tally_in c.args.tally.now) c.args.holders.now c.args.score in
    let r = c.matchpoints-answer.result in
    let bytes = mapped points_bytes points_answer (λ p. record { ns = p.ns.0; ew = p.ew.0 }) (λ _. refl) (λ _. refl) r c.map.result c.map.ensures.cases in
    let s = says-within 4 _ c.args.points.now (search rules) _ (bytes ∙ ap (spelled points_bytes) asked) (c.put.ensures.number, c.put.ensures.left) in
    record { number = s.0; left = s.1 }
