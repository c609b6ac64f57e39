-- `check_contents` meets its contract: a law of Contents for each way out. Assumes nothing.
use Rattle.std.proofs.Common.{arith}
use Rattle.std.proofs.lemmas.Result.{err_from_is_err_and}
use Rattle.contents.specs.Given.{given_with}
use Rattle.contents.proofs.Contents.{heading-refused, board-low, deal-refused, hands_are, thirteen_are, calls-refused, rest_checked}
use Rattle.contents.proofs.check_contents.Goals as goal

pub returns-in_err-check_heading : goal.returns-in_err-check_heading
returns-in_err-check_heading c =
    let p = err_from_is_err_and c.from_residual.result c.from_residual.ensures.1 in
    let g = c.args.given in
    rw (p.1, p.2) (heading-refused (given_with g.board g.table g.holders.now g.calls.now g.plays.now g.claim) c.in_err-check_heading.ensures)

pub returns-in_err-dealt : goal.returns-in_err-dealt
returns-in_err-dealt c =
    let p = err_from_is_err_and c.from_residual-in_err-dealt.result c.from_residual-in_err-dealt.ensures.1 in
    let g = c.args.given in
    rw (p.1, p.2)
    (deal-refused (given_with g.board g.table g.holders.now g.calls.now g.plays.now g.claim) c.in_ok-check_heading.ensures c.in_err-dealt.ensures)

pub overflow_cast-given : goal.overflow_cast-given
overflow_cast-given c =
    let g = c.args.given in
    omega (arith, board-low (given_with g.board g.table g.holders.now g.calls.now g.plays.now g.claim) c.in_ok-check_heading.ensures)

pub returns-in_err-after : goal.returns-in_err-after
returns-in_err-after c =
    let p = err_from_is_err_and c.from_residual-in_err-after.result c.from_residual-in_err-after.ensures.1 in
    let g = c.args.given in
    rw (p.1, p.2)
    (calls-refused (given_with g.board g.table g.holders.now g.calls.now g.plays.now g.claim) c.in_ok-check_heading.ensures c.in_ok-dealt.ensures
    _ c.dealer.ensures c.in_err-after.ensures)

pub check_play-requires : goal.check_play-requires
check_play-requires c =
    let g = c.args.given in
    let what = given_with g.board g.table g.holders.now g.calls.now g.plays.now g.claim in record {
      hands = hands_are what c.in_ok-check_heading.ensures c.in_ok-dealt.ensures;
      thirteen = thirteen_are what c.in_ok-check_heading.ensures c.in_ok-dealt.ensures;
    }

pub returns : goal.returns
returns c =
    let g = c.args.given in
    rest_checked (given_with g.board g.table g.holders.now g.calls.now g.plays.now g.claim) c.in_ok-check_heading.ensures c.in_ok-dealt.ensures
    _ c.dealer.ensures c.in_ok-after.ensures c.check_play.ensures
