-- `merging::next_of` meets its contract, by its test. Assumes nothing.
use borrow.Author.Tests.{eq-eqb, ne_eqb}
use Rattle.merging.specs.Joins.{next_of}
use Rattle.merging.proofs.next_of.Goals as goal

pub returns-then-taken-eq0 : goal.returns-then-taken-eq0
unfolding next_of
returns-then-taken-eq0 c = rw (eq-eqb _ _ c.if-taken-eq0.true)

pub returns-else-taken-eq0 : goal.returns-else-taken-eq0
unfolding next_of
returns-else-taken-eq0 c = rw (ne_eqb _ _ c.if-taken-eq0.false)
