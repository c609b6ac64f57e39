-- `read` meets its contract: the four parts of 398 bytes, and of another number none. Assumes nothing.
use mathlib.Core.Path.{◌∙◌}
use borrow.Author.Tests.{eq-eqb, ne_eqb}
use lib.ListN.{length}
use Rattle.tally.specs.InBytes.{tally_from, tally_in}
use Rattle.tally.specs.Tallies.{tally_of}
use Rattle.tally_bytes.proofs.read.Goals as goal

pub returns-in_default : goal.returns-in_default
unfolding tally_in tally_of
returns-in_default c = c.empty.ensures ∙ rw (ne_eqb (length c.args.bytes.now) 398 c.in_default.ensures.cases)

pub returns : goal.returns
unfolding tally_in tally_from
returns c =
    let whole = c.in-Some.ensures.cases in
    rw (eq-eqb (length c.args.bytes.now) 398 whole.long, c.deal_in.ensures, c.scores_in.ensures, c.counts_in.ensures, whole.same)
