-- `tally_fresh` meets its contract: a short buffer first, then what the call answers for the narrowed board. Assumes nothing.
use borrow.Author.Rules.{rules}
use mathlib.Core.Path.{ap, ◌∙◌}
use Rattle.tally.specs.Tallies.{fresh_of}
use Rattle.tally_calls.specs.Calls.{tallied, fresh_call}
use Rattle.tally_calls.proofs.Saying.{says-short, says-within}
use Rattle.tally_calls.proofs.Narrowing.{fresh_narrowed}
use Rattle.tally_calls.proofs.tally_fresh.Goals as goal

pub returns-then-out-lt-TALLY_LENGTH : goal.returns-then-out-lt-TALLY_LENGTH
unfolding fresh_call
returns-then-out-lt-TALLY_LENGTH c =
    let s = says-short 398 _ c.args.out.now c.if-out-lt-TALLY_LENGTH.true c.short.ensures in
    record { number = s.0; left = s.1 }

pub returns : goal.returns
unfolding fresh_call
returns c =
    let said = ap tallied (c.fresh.ensures ∙ ap fresh_of c.narrow_board.ensures ∙ fresh_narrowed c.args.board) in
    let s = says-within 398 _ c.args.out.now (search rules) _ said (c.put_tally.ensures.number, c.put_tally.ensures.left) in
    record { number = s.0; left = s.1 }
