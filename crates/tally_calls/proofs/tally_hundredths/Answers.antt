-- `tally_hundredths` meets its contract: a short buffer first, then what the call answers for the tally read and the narrowed score. Assumes nothing.
use borrow.Author.Rules.{rules}
use mathlib.Core.Path.{refl, ap, ◌∙◌}
use mir.Syntax.{w16}
use mir.Val.{SFits}
use mir.Facts.{to_z-of_z}
use Rattle.tally.specs.InBytes.{tally_in}
use Rattle.hundredths.specs.Shares.{shares, share_answer}
use Rattle.tally_calls.specs.Calls.{spelled, shares_bytes, hundredths_call}
use Rattle.tally_calls.proofs.Saying.{mapped, says-short, says-within}
use Rattle.tally_calls.proofs.Narrowing.{shares_narrowed}
use Rattle.tally_calls.proofs.tally_hundredths.Goals as goal

pub returns-then-shares-lt4 : goal.returns-then-shares-lt4
unfolding hundredths_call
returns-then-shares-lt4 c =
    let s = says-short 4 _ c.args.shares.now c.if-shares-lt4.true c.short.ensures in
    record { number = s.0; left = s.1 }

pub returns : goal.returns
unfolding hundredths_call shares_bytes
returns c =
    let fits : SFits w16 c.narrow_score.result = search rules in
    let asked = rw (to_z-of_z fits, c.narrow_score.ensures, to_z-of_z c.ranges.score, c.read.ensures) at c.shares_of-answer.ensures
    ∙ shares_narrowed (tally_in c.args.tally.now) c.args.holders.now c.args.score in
    let bytes = mapped shares_bytes share_answer shares (λ _. refl) (λ _. refl) c.shares_of-answer.result c.map.result c.map.ensures.cases in
    let s = says-within 4 _ c.args.shares.now (search rules) _ (bytes ∙ ap (spelled shares_bytes) asked) (c.put.ensures.number, c.put.ensures.left) in
    record { number = s.0; left = s.1 }
