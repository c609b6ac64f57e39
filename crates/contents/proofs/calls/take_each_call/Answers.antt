-- `take_each_call` meets its contract: a turn of the loop for each call. Assumes nothing.
use Rattle.std.proofs.lemmas.Result.{err_from_is_err_and}
use Rattle.contents.proofs.CallTurns.{call-begins, call_ends, call_stops, call-goes}
use Rattle.contents.proofs.calls.take_each_call.Goals as goal

pub loop-i-init : goal.loop-i-init
loop-i-init c = call-begins _ _ c.new-auction.ensures

pub returns-in_err-auction : goal.returns-in_err-auction
returns-in_err-auction c =
    let p = err_from_is_err_and c.from_residual.result c.from_residual.ensures.1 in
    rw (p.1, p.2) (call_stops _ _ c.loop-i.invariant c.loop-i-test.true c.in_err-auction.ensures)

pub loop-i-preserved : goal.loop-i-preserved
loop-i-preserved c = call-goes _ _ c.loop-i.invariant c.loop-i-test.true c.in_ok-auction.ensures

pub returns : goal.returns
returns c = call_ends _ _ c.loop-i.invariant c.loop-i-test.false
