-- `put_winners` meets its contract: after i turns the bytes of the first i tricks are over the front. Assumes nothing.
use Rattle.std.proofs.Common.{◌≡◌, ◌++◌, ◌*◌, map, length, take, drop}
use Rattle.laws.specs.Judgement.{won_bytes}
use Rattle.play.specs.History.{law_of}
use Rattle.judge.proofs.put_winners.Given as goal

abbrev pub invariant-loop-i : goal.invariant-loop-i
invariant-loop-i l = record {
  put : l.winners ≡ take (2 * l.i) (won_bytes (map law_of l.fn.ts.answers)) ++ drop (2 * l.i) l.initial.winners;
  long : length l.winners ≡ length l.initial.winners;
}
