-- `read_to_last_card` meets its contract: a law of Beginning for each way out. Assumes nothing.
use Rattle.std.proofs.lemmas.Result.{err_from_is_err_and}
use Rattle.last_card.proofs.Beginning.{heading-refused, deal-refused, hands_are, thirteen_are, calls-refused, calls_bound, calls-read}
use Rattle.last_card.proofs.reached.read_to_last_card.Goals as goal

pub returns-in_err-top : goal.returns-in_err-top
returns-in_err-top c =
    let p = err_from_is_err_and c.from_residual.result c.from_residual.ensures.1 in
    rw (p.1, p.2) (heading-refused c.args.bytes.now c.in_err-top.ensures)

pub returns-in_err-dealt : goal.returns-in_err-dealt
returns-in_err-dealt c =
    let p = err_from_is_err_and c.from_residual-in_err-dealt.result c.from_residual-in_err-dealt.ensures.1 in
    rw (p.1, p.2) (deal-refused c.args.bytes.now c.in_ok-top.ensures c.in_err-dealt.ensures)

pub returns-in_err-calls : goal.returns-in_err-calls
returns-in_err-calls c =
    let p = err_from_is_err_and c.from_residual-in_err-calls.result c.from_residual-in_err-calls.ensures.1 in
    rw (p.1, p.2) (calls-refused c.args.bytes.now c.in_ok-top.ensures c.in_ok-dealt.ensures _ c.dealer.ensures c.in_err-calls.ensures)

pub read_play-requires : goal.read_play-requires
read_play-requires c =
    let b = c.args.bytes.now in
    let bound = calls_bound b c.in_ok-top.ensures c.in_ok-dealt.ensures _ c.dealer.ensures c.in_ok-calls.ensures in record {
      to = bound;
      hands = hands_are b c.in_ok-top.ensures c.in_ok-dealt.ensures;
      thirteen = thirteen_are b c.in_ok-top.ensures c.in_ok-dealt.ensures;
    }

pub returns : goal.returns
returns c =
    calls-read c.args.bytes.now c.in_ok-top.ensures c.in_ok-dealt.ensures _ c.dealer.ensures c.in_ok-calls.ensures c.read_play.ensures
