-- `answer_text::put_entries` meets its contract. The loop's invariant: the lines of the places before `i` are put. Assumes nothing.
use Rattle.answer_text.proofs.Answering.{Shown}
use Rattle.answer_text.proofs.put_entries.Given as goal

abbrev pub invariant-loop-i : goal.invariant-loop-i
invariant-loop-i l = Shown l.t l.initial.out l.out l.at l.i
