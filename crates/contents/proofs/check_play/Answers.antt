-- `check_play` meets its contract: a law of Composing for each way out. Assumes nothing.
use Rattle.std.proofs.Common.{arith}
use Rattle.std.proofs.lemmas.Result.{err_from_is_err_and}
use Rattle.contents.proofs.Composing.{leader_lt, cards-refused, few-played, claim_checked}
use Rattle.contents.proofs.check_play.Goals as goal

pub invariant_of-start-clause-seat : goal.invariant_of-start-clause-seat
invariant_of-start-clause-seat c = rw c.opening_leader.ensures (leader_lt _)

pub returns-in_err-check_plays : goal.returns-in_err-check_plays
returns-in_err-check_plays c =
    λ d h told.
    let a = c.args in
    let p = err_from_is_err_and c.from_residual.result c.from_residual.ensures.1 in
    rw (p.1, p.2)
    (cards-refused a.dealt.holders _ c.requires.thirteen.places _ d h told _ c.is_passed_out-out.ensures _ c.contract-k.ensures _
    c.opening_leader.ensures _ c.in_err-check_plays.ensures)

pub overflow_cast-cards : goal.overflow_cast-cards
overflow_cast-cards c =
    let a = c.args in
    omega (arith, few-played _ _ _ a.dealt.holders a.plays.now c.in_ok-check_plays.ensures, c.count_cards-cards.ensures)

pub returns : goal.returns
returns c =
    λ d h told.
    let a = c.args in
    claim_checked a.dealt.holders a.plays.now c.requires.thirteen.places _ d h told _ c.is_passed_out-out.ensures _ c.contract-k.ensures _
    c.opening_leader.ensures _ c.in_ok-check_plays.ensures (rw c.count_cards-cards.ensures at c.check_claim.ensures)
