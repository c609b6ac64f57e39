-- `judge` meets its contract: a law of Reaching for each way out. Assumes nothing.
use Rattle.std.proofs.lemmas.Result.{err_from_is_err_and}
use Rattle.judgement.proofs.Reaching.{reached_refused, reached_bounds, reached_read}
use Rattle.judgement.proofs.whole.judge.Goals as goal

pub returns-in_err-reached : goal.returns-in_err-reached
returns-in_err-reached c =
    let p = err_from_is_err_and c.from_residual.result c.from_residual.ensures.1 in
    rw (p.1, p.2) (reached_refused c.args.bytes.now c.in_err-reached.ensures)

pub judge_claim-requires : goal.judge_claim-requires
judge_claim-requires c =
    let b = reached_bounds c.args.bytes.now c.in_ok-reached.ensures in
    record { played = b.0; at = b.1 }

pub returns : goal.returns
returns c = reached_read c.args.bytes.now c.in_ok-reached.ensures c.judge_claim.ensures
