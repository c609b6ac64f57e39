-- `tally_merge` meets its contract: a short buffer first, then what the call answers for the tallies read. Assumes nothing.
use borrow.Author.Rules.{rules}
use mathlib.Core.Path.{ap, ap₂, ◌∙◌}
use Rattle.tally.specs.Tallies.{merge_of}
use Rattle.tally_calls.specs.Calls.{tallied, merge_call}
use Rattle.tally_calls.proofs.Saying.{says-short, says-within}
use Rattle.tally_calls.proofs.tally_merge.Goals as goal

pub returns-then-out-lt-TALLY_LENGTH : goal.returns-then-out-lt-TALLY_LENGTH
unfolding merge_call
returns-then-out-lt-TALLY_LENGTH c =
    let s = says-short 398 _ c.args.out.now c.if-out-lt-TALLY_LENGTH.true c.short.ensures in
    record { number = s.0; left = s.1 }

pub returns : goal.returns
unfolding merge_call
returns c =
    let said = ap tallied (c.merge.ensures ∙ ap₂ merge_of c.read.ensures c.read-2.ensures) in
    let s = says-within 398 _ c.args.out.now (search rules) _ said (c.put_tally.ensures.number, c.put_tally.ensures.left) in
    record { number = s.0; left = s.1 }
