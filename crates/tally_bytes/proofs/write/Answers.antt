-- `write` meets its contract: the four parts stored one behind the other. Assumes nothing.
use mathlib.Core.Path.{◌≡◌}
use borrow.Author.Rules.{rules}
use borrow.Author.Tests.{lt-ltb}
use lib.ListN.{length}
use Rattle.tally_bytes.specs.Written.{tally_left}
use Rattle.tally_bytes.proofs.Stores.{over_front}
use Rattle.tally_bytes.proofs.write.Goals as goal

pub returns-in_default : goal.returns-in_default
unfolding tally_left
returns-in_default c = rw (lt-ltb (length c.args.out.now) 398 c.in_default.ensures.cases)

pub returns : goal.returns
returns c =
    let t = c.args.t in
    let n : (length t.deal ≡ 52) × (length t.scores ≡ 128) × (length t.counts ≡ 128) = (search rules, search rules, search rules) in
    over_front t c.in-Some.out.now c.put_deal.ensures c.put_scores.ensures c.put_counts.ensures (search rules) n.0 n.1 n.2 c.args.out.now
    c.in-Some.ensures.cases.enough
