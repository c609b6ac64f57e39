-- `team_match::boards_used` meets its contract. The loop's invariant: those counted and those from the place on are all of them. Assumes nothing.
use native.Mathlib.Omega.{arith}
use borrow.Author.Rules.{rules}
use Rattle.team_match.specs.Matches.{boards_in}
use Rattle.team_match.proofs.Boards.{count_next, count_end}
use Rattle.team_match.proofs.boards_used.Goals as goal

pub loop-used-init : goal.loop-used-init
loop-used-init c = (omega arith, search rules, omega arith)

pub overflow_add-n : goal.overflow_add-n
overflow_add-n c =
    let l = c.loop-used in
    let next = count_next c.args.m.used l.used-index l.n _ (omega (arith, l.invariant.1)) c.from-n.ensures l.invariant.0 l.invariant.2 in
    omega (arith, next.0)

pub loop-used-preserved : goal.loop-used-preserved
loop-used-preserved c =
    let l = c.loop-used in
    let next = count_next c.args.m.used l.used-index l.n _ (omega (arith, l.invariant.1)) c.from-n.ensures l.invariant.0 l.invariant.2 in
    (next.0, l.invariant.1, next.1)

pub returns : goal.returns
unfolding boards_in
returns c =
    let l = c.loop-used in
    omega (arith, l.invariant.2, count_end c.args.m.used l.used-index (omega (arith, l.invariant.1)))
