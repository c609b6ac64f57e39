-- `pbn_words::rows::row_in` meets its contract. The loop's invariant is `Reached`. Assumes nothing.
use Rattle.pbn_words.proofs.RowsRead.{Reached}
use Rattle.pbn_words.proofs.rows.row_in.Given as goal

abbrev pub invariant-loop-i : goal.invariant-loop-i
invariant-loop-i l = Reached l.line l.cards l.numbers l.i l.at
