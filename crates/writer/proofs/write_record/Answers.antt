-- `write_record` meets its contract: a law of Records for each way out. Assumes nothing.
use Rattle.std.proofs.Common.{◌≡◌, ◌∙◌, [], length, arith}
use Rattle.std.proofs.lemmas.Result.{err_from_is_err_and}
use Rattle.laws.specs.Record.{encode}
use Rattle.contents.specs.Given.{given_with}
use Rattle.writer.specs.Fields.{parts_of}
use Rattle.writer.proofs.Records.{record_refused, fits, none-broken, plays-low, bits-low, length-low, record_short, record_written, size_is}
use Rattle.writer.proofs.write_record.Goals as goal

pub returns-in_err-check_contents-clause-answer : goal.returns-in_err-check_contents-clause-answer
returns-in_err-check_contents-clause-answer c =
    let a = c.args in
    let g = a.given in
    let p = err_from_is_err_and c.from_residual.result c.from_residual.ensures.1 in
    rw (p.1, p.2) (record_refused (given_with g.board g.table g.holders.now g.calls.now g.plays.now g.claim) a.out.now c.in_err-check_contents.ensures).0

pub returns-in_err-check_contents-clause-left : goal.returns-in_err-check_contents-clause-left
returns-in_err-check_contents-clause-left c =
    let a = c.args in
    let g = a.given in
    (record_refused (given_with g.board g.table g.holders.now g.calls.now g.plays.now g.claim) a.out.now c.in_err-check_contents.ensures).1

pub invariant_of-plays : goal.invariant_of-plays
invariant_of-plays c =
    let g = c.args.given in
    record { whole = none-broken (given_with g.board g.table g.holders.now g.calls.now g.plays.now g.claim) [] c.in_ok-check_contents.ensures }

pub play_bits-requires : goal.play_bits-requires
play_bits-requires c =
    let a = c.args in
    let g = a.given in
    let k = (given_with g.board g.table g.holders.now g.calls.now g.plays.now g.claim) in
    plays-low k [] c.in_ok-check_contents.ensures

pub length_of-size-requires : goal.length_of-size-requires
length_of-size-requires c =
    let a = c.args in
    let g = a.given in
    rw c.play_bits.ensures (bits-low (given_with g.board g.table g.holders.now g.calls.now g.plays.now g.claim) [] c.in_ok-check_contents.ensures)

pub returns-then-out-size : goal.returns-then-out-size
returns-then-out-size c =
    let a = c.args in
    let g = a.given in
    let k = (given_with g.board g.table g.holders.now g.calls.now g.plays.now g.claim) in
    let size : c.length_of-size.result ≡ length (encode (parts_of g.board g.table g.holders.now g.calls.now g.plays.now g.claim)) =
    c.length_of-size.ensures
    ∙ rw c.play_bits.ensures (size_is g.board g.table g.holders.now g.calls.now g.plays.now g.claim (fits k [] c.in_ok-check_contents.ensures)) in
    let s = record_short k a.out.now c.in_ok-check_contents.ensures _ size c.if-out-size.true in
    record { answer = rw c.at.ensures s.0; most = tt; left = s.1 }

pub write_contents-requires : goal.write_contents-requires
write_contents-requires c =
    let a = c.args in
    let g = a.given in
    none-broken (given_with g.board g.table g.holders.now g.calls.now g.plays.now g.claim) [] c.in_ok-check_contents.ensures

pub returns : goal.returns
returns c =
    let a = c.args in
    let g = a.given in
    let k = (given_with g.board g.table g.holders.now g.calls.now g.plays.now g.claim) in
    let size : c.length_of-size.result ≡ length (encode (parts_of g.board g.table g.holders.now g.calls.now g.plays.now g.claim)) =
    c.length_of-size.ensures
    ∙ rw c.play_bits.ensures (size_is g.board g.table g.holders.now g.calls.now g.plays.now g.claim (fits k [] c.in_ok-check_contents.ensures)) in
    let s = record_written k a.out.now c.in_ok-check_contents.ensures _ size c.if-out-size.false _ c.write_contents.ensures in
    record { answer = s.0; most = omega (arith, size, length-low k [] c.in_ok-check_contents.ensures); left = s.1 }
