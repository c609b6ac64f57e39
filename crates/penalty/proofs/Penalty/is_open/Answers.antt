-- `penalty::Penalty::is_open_lem` meets its contract. Assumes nothing.
use borrow.Author.Tests.{lt-leb, le-leb, eq-eqb, ne_eqb}
use Rattle.penalty.specs.Position.{open_in}
use Rattle.penalty.proofs.Penalty.is_open.Goals as goal

pub returns-then-kind-gt1 : goal.returns-then-kind-gt1
unfolding open_in
returns-then-kind-gt1 c = simp (lt-leb _ 1 c.if-kind-gt1.true)

pub returns-then-self-ne4 : goal.returns-then-self-ne4
unfolding open_in
returns-then-self-ne4 c = simp (le-leb _ 1 c.if-kind-gt1.false, ne_eqb _ _ c.if-self-ne4.true)

pub returns-then-unbarred : goal.returns-then-unbarred
unfolding open_in
returns-then-unbarred c =
    rw (le-leb _ 1 c.if-kind-gt1.false, eq-eqb _ _ c.if-self-ne4.false, ← c.unbarred.ensures, c.if-unbarred.true, ← c.suit_word.ensures)
    c.meets.ensures

pub returns : goal.returns
unfolding open_in
returns c = rw (le-leb _ 1 c.if-kind-gt1.false, eq-eqb _ _ c.if-self-ne4.false, ← c.unbarred.ensures, c.if-unbarred.false)
