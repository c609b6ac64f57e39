-- `items_in` meets its contract. Assumes nothing.
use mathlib.Core.Path.{sym, ◌∙◌}
use borrow.Author.Tests.{eq-eqb}
use Rattle.explanation.specs.Explained.{level_in, items_at}
use Rattle.explanation.proofs.Granting.{all_zero}
use Rattle.explanation.proofs.Explaining.{stake_read, items-read}
use Rattle.explanation.proofs.slip.items_in.Goals as goal

pub returns-then-level-eq0 : goal.returns-then-level-eq0
unfolding items_at
returns-then-level-eq0 c = rw (eq-eqb (level_in c.args.bits) 0 (sym c.part-level.ensures ∙ c.if-level-eq0.true)) (all_zero c.default.ensures)

pub returns : goal.returns
returns c =
    let bits = c.args.bits in
    items-read bits c.part-level.ensures c.if-level-eq0.false c.part-declarer.ensures
    (stake_read bits c.part-level.ensures c.part.ensures c.part-2.ensures c.part-board.ensures c.part-declarer.ensures c.vulnerable.ensures)
    c.part-3.ensures c.items_of.ensures
