-- `tally::zeros_from` meets its contract. The loop's invariant: the places from `at` on are zero exactly where none was counted and those from `i` on
-- are zero. Assumes nothing.
use Rattle.std.proofs.Common.{sym, ◌∙◌, rules, arith}
use lib.IntN.{pos}
use lib.ListN.{get_or}
use mir.Syntax.{w16}
use mir.Val.{SFits}
use Rattle.tally.proofs.Places.{zeros_end, and-true, low, zeros_turn, one_if_not, one_if_score}
use Rattle.tally.proofs.zeros_from.Goals as goal

pub loop-i-preserved : goal.loop-i-preserved
loop-i-preserved c =
    let ss = c.args.scores.now in
    let cs = c.args.counts.now in
    let i = c.loop-i.i in
    let f : SFits w16 (get_or ss i (pos 0)) = search rules in
    let p = one_if_score _ _ f c.from.ensures in
    let q = one_if_not _ _ c.from-in-loop-i.ensures in
    let n = low ss cs i (omega arith) (omega arith) _ _ p q in
    (omega (arith, n.0, n.1), c.loop-i.invariant.1 ∙ zeros_turn ss cs i (omega arith) (omega arith) _ _ p q _)

pub returns : goal.returns
returns c =
    let ss = c.args.scores.now in
    let cs = c.args.counts.now in
    sym (c.loop-i.invariant.1 ∙ rw (zeros_end ss cs c.loop-i.i (omega arith)) (and-true _))
