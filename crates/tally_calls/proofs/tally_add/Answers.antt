-- `tally_add` meets its contract: a short buffer first, then what the call answers for the tally read and the narrowed score. Assumes nothing.
use borrow.Author.Rules.{rules}
use mathlib.Core.Path.{ap, ◌∙◌}
use mir.Syntax.{w16}
use mir.Val.{SFits}
use mir.Facts.{to_z-of_z}
use Rattle.tally.specs.InBytes.{tally_in}
use Rattle.tally_calls.specs.Calls.{tallied, add_call}
use Rattle.tally_calls.proofs.Saying.{says-short, says-within}
use Rattle.tally_calls.proofs.Narrowing.{add_narrowed}
use Rattle.tally_calls.proofs.tally_add.Goals as goal

pub returns-then-out-lt-TALLY_LENGTH : goal.returns-then-out-lt-TALLY_LENGTH
unfolding add_call
returns-then-out-lt-TALLY_LENGTH c =
    let s = says-short 398 _ c.args.out.now c.if-out-lt-TALLY_LENGTH.true c.short.ensures in
    record { number = s.0; left = s.1 }

pub returns : goal.returns
unfolding add_call
returns c =
    let fits : SFits w16 c.narrow_score.result = search rules in
    let added = rw (to_z-of_z fits, c.narrow_score.ensures, to_z-of_z c.ranges.score, c.read.ensures) at c.add-answer.ensures
    ∙ add_narrowed (tally_in c.args.tally.now) c.args.holders.now c.args.score in
    let s = says-within 398 _ c.args.out.now (search rules) _ (ap tallied added) (c.put_tally.ensures.number, c.put_tally.ensures.left) in
    record { number = s.0; left = s.1 }
