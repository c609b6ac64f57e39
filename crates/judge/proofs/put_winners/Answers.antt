-- `put_winners` meets its contract: after i turns the bytes of the first i tricks are over the front. Assumes nothing.
use Rattle.std.proofs.Common.{rules, ◌≡◌, arith, length}
use Rattle.judge.proofs.Answering.{pair_more}
use Rattle.judge.proofs.put_winners.Goals as goal

pub loop-i-preserved : goal.loop-i-preserved
loop-i-preserved c =
    let a = c.args in
    let l = c.loop-i in
    let n : length a.ts.answers ≡ 13 = search rules in
    record {
      put = pair_more _ _ a.ts.answers l.i l.invariant.put (omega arith) (omega arith);
      long = search rules;
    }
