-- `read_each_call` meets its contract: a turn of the loop for each call. Assumes nothing.
use Rattle.std.proofs.Common.{◌≡◌, ◌+◌, ◌*◌, ◌≤◌, length, arith}
use Rattle.std.proofs.lemmas.Result.{err_from_is_err_and}
use Rattle.last_card.proofs.CallTurns.{call-begins, call_ends, call-short, call_stops, call-goes}
use Rattle.last_card.proofs.SixBits.{whole-most, whole_in, whole_out, code_read, code_short}
use Rattle.last_card.proofs.reading.read_each_call.Goals as goal

pub loop-i-init : goal.loop-i-init
loop-i-init c = call-begins _ _ _ _ c.new-auction.ensures

pub overflow_add-next : goal.overflow_add-next
overflow_add-next c = omega (arith, c.loop-i.invariant.along, whole-most (length c.args.bytes.now) c.args.at c.args.count c.whole_codes-whole.ensures)

pub returns-in_err-auction : goal.returns-in_err-auction
returns-in_err-auction c =
    let a = c.args in
    let p = err_from_is_err_and c.from_residual.result c.from_residual.ensures.1 in
    let along = c.loop-i.invariant.along in
    let more = c.loop-i-test.true in
    let whole = c.whole_codes-whole.ensures in
    let inside : c.loop-i.next + 6 ≤ 8 * length a.bytes.now = omega (arith, along, whole_in (length a.bytes.now) a.at a.count whole c.loop-i.i more) in
    rw (p.1, p.2)
    (call_stops _ _ _ _ c.loop-i.invariant (omega (arith, whole-most (length a.bytes.now) a.at a.count whole, more)) _
    (code_read _ c.loop-i.next c.code_ending.ensures inside) c.in_err-auction.ensures)

pub loop-i-preserved : goal.loop-i-preserved
loop-i-preserved c =
    let a = c.args in
    let along = c.loop-i.invariant.along in
    let more = c.loop-i-test.true in
    let whole = c.whole_codes-whole.ensures in
    let inside : c.loop-i.next + 6 ≤ 8 * length a.bytes.now = omega (arith, along, whole_in (length a.bytes.now) a.at a.count whole c.loop-i.i more) in
    call-goes _ _ _ _ c.loop-i.invariant (omega (arith, whole-most (length a.bytes.now) a.at a.count whole, more)) _
    (code_read _ c.loop-i.next c.code_ending.ensures inside) c.in_ok-auction.ensures

pub returns-then-whole-count : goal.returns-then-whole-count
returns-then-whole-count c =
    let a = c.args in
    let whole = c.whole_codes-whole.ensures in
    let last : c.loop-i.i ≡ c.whole_codes-whole.result = omega (arith, c.loop-i.auto.i-end, c.loop-i-test.false) in
    rw c.at.ensures
    (call-short _ _ _ _ c.loop-i.invariant (omega (arith, last, c.if-whole-count.true))
    (code_short _ c.loop-i.next (omega
    (arith, c.loop-i.invariant.along, last, whole_out (length a.bytes.now) a.at a.count whole c.if-whole-count.true))))

pub returns : goal.returns
returns c = call_ends _ _ _ _ c.loop-i.invariant (omega (arith, c.loop-i-test.false, c.if-whole-count.false))
