-- `read_marked_claim` meets its contract: a law of Claiming for each way out. Assumes nothing.
use Rattle.std.proofs.Common.{sym, ◌∙◌, arith}
use Rattle.std.proofs.lemmas.Result.{err_from_is_err_and}
use Rattle.field.proofs.ThreeBytes.{given-reads, refused_stops}
use Rattle.judgement.proofs.Claiming.{claim_elsewhere, claim-short, claim_too_many_lem, claim-agreed}
use Rattle.judgement.proofs.claim.read_marked_claim.Goals as goal

pub returns-then-not-may_claim : goal.returns-then-not-may_claim
returns-then-not-may_claim c =
    rw (c.at.ensures, c.from.ensures) (claim_elsewhere _ _ c.args.bytes.now _ (sym c.may_claim.ensures ∙ c.if-not-may_claim.true))

pub returns-in_err-tricks : goal.returns-in_err-tricks
returns-in_err-tricks c =
    let p = err_from_is_err_and c.from_residual.result c.from_residual.ensures.1 in
    rw (p.1, p.2)
    (claim-short _ _ _ _ (sym c.may_claim.ensures ∙ c.if-not-may_claim.false) (refused_stops _ c.args.at 4 (omega arith) c.in_err-tricks.ensures))

pub returns-then-from-tricks : goal.returns-then-from-tricks
returns-then-from-tricks c =
    rw c.at-then-from-tricks.ensures
    (claim_too_many_lem _ _ _ _ (sym c.may_claim.ensures ∙ c.if-not-may_claim.false) _ (given-reads _ c.args.at 4 c.in_ok-tricks.ensures)
    (rw (c.from-2.ensures, c.tricks_left.ensures) at c.if-from-tricks.true))

pub returns : goal.returns
returns c =
    claim-agreed _ _ _ _ (sym c.may_claim.ensures ∙ c.if-not-may_claim.false) _ (given-reads _ c.args.at 4 c.in_ok-tricks.ensures)
    (rw (c.from-2.ensures, c.tricks_left.ensures) at c.if-from-tricks.false)
