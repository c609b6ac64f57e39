-- `read_play` meets its contract: a law of Composing for each way out. Assumes nothing.
use Rattle.std.proofs.lemmas.Result.{err_from_is_err_and}
use Rattle.last_card.proofs.Composing.{leader_lt, cards-refused, cards-read}
use Rattle.last_card.proofs.reached.read_play.Goals as goal

pub invariant_of-start-clause-seat : goal.invariant_of-start-clause-seat
invariant_of-start-clause-seat c = rw c.opening_leader.ensures (leader_lt _)

pub returns-in_err-cards : goal.returns-in_err-cards
returns-in_err-cards c =
    λ h told.
    let a = c.args in
    let p = err_from_is_err_and c.from_residual.result c.from_residual.ensures.1 in
    rw (p.1, p.2)
    (cards-refused a.top.board a.top.table a.a a.dealt.holders h told a.bytes.now a.at _ c.is_passed_out-out.ensures _ c.contract-contract.ensures
    _ c.opening_leader.ensures c.in_err-cards.ensures)

pub returns : goal.returns
returns c =
    λ h told.
    let a = c.args in
    cards-read a.top.board a.top.table a.a a.dealt.holders h told a.bytes.now a.at _ c.is_passed_out-out.ensures _ c.contract-contract.ensures
    _ c.opening_leader.ensures c.in_ok-cards.ensures
