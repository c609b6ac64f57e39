-- `judge_claim` meets its contract: a law of Judging for each way out. Assumes nothing.
use Rattle.std.proofs.Common.{refl, sym, ◌∙◌}
use borrow.Author.Tests.{not-true, not-false}
use Rattle.std.proofs.lemmas.Result.{err_from_is_err_and}
use Rattle.judgement.proofs.Judging.{claim-refused, not-padded, claim-accepted}
use Rattle.judgement.proofs.whole.judge_claim.Goals as goal

pub returns-in_err-claim : goal.returns-in_err-claim
returns-in_err-claim c =
    λ deal h e told.
    let a = c.args in
    let r = a.reached in
    let p = err_from_is_err_and c.from_residual.result c.from_residual.ensures.1 in
    rw (p.1, p.2) (claim-refused r.board r.table r.out r.contract deal h e r.after told a.bytes.now a.at _ refl c.in_err-claim.ensures)

pub returns-then-not-is_padding : goal.returns-then-not-is_padding
returns-then-not-is_padding c =
    λ deal h e told.
    let a = c.args in
    let r = a.reached in
    rw c.at.ensures
    (not-padded r.board r.table r.out r.contract deal h e r.after told a.bytes.now a.at _ refl c.in_ok-claim.ensures
    (not-false _ (sym c.is_padding.ensures ∙ c.if-not-is_padding.true)))

pub returns : goal.returns
returns c =
    λ deal h e told.
    let a = c.args in
    let r = a.reached in
    claim-accepted r.board r.table r.out r.contract deal h e r.after told a.bytes.now a.at _ refl c.in_ok-claim.ensures _ c.tricks_left.ensures
    c.tricks-ts.ensures c.revokes-rs.ensures c.failure_bytes.ensures
    (not-true _ (sym c.is_padding.ensures ∙ c.if-not-is_padding.false)) c.settle_board-bits.ensures
