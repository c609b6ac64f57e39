-- `read_claim` meets its contract: a law of Claiming for each way out. Assumes nothing.
use Rattle.std.proofs.Common.{ap, ◌∙◌, arith}
use Rattle.std.proofs.lemmas.Result.{err_from_is_err_and}
use Rattle.field.proofs.ThreeBytes.{given-reads, refused_stops}
use Rattle.judgement.specs.Claims.{claim_of}
use Rattle.judgement.proofs.Claiming.{mark-short, unmarked, marked, reads_none}
use Rattle.judgement.proofs.claim.read_claim.Goals as goal

pub returns-in_err-mark : goal.returns-in_err-mark
returns-in_err-mark c =
    let p = err_from_is_err_and c.from_residual.result c.from_residual.ensures.1 in
    rw (p.1, p.2) (mark-short _ _ _ _ (refused_stops _ c.args.at 1 (omega arith) c.in_err-mark.ensures))

pub returns-then-mark-eq0 : goal.returns-then-mark-eq0
returns-then-mark-eq0 c =
    let a = c.args in
    c.read_no_claim.ensures ∙ ap claim_of (reads_none _ _ _ a.bytes.now)
    ∙ unmarked _ _ _ _ _ (given-reads _ a.at 1 c.in_ok-mark.ensures) c.if-mark-eq0.true

pub returns : goal.returns
returns c = c.read_marked_claim.ensures ∙ marked _ _ _ _ _ (given-reads _ c.args.at 1 c.in_ok-mark.ensures) c.if-mark-eq0.false
