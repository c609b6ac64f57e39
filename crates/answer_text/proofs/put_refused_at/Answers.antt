-- `answer_text::put_refused_at` meets its contract, by its test. Assumes nothing.
use borrow.Author.Tests.{eq-eqb, ne_eqb}
use Rattle.answer_text.specs.Answers.{refused_at_text}
use Rattle.answer_text.proofs.put_refused_at.Goals as goal

pub returns-then-place-eq0 : goal.returns-then-place-eq0
unfolding refused_at_text
returns-then-place-eq0 c = rw (eq-eqb _ _ c.if-place-eq0.true) c.put_refused.ensures

pub returns : goal.returns
unfolding refused_at_text
returns c = rw (ne_eqb _ _ c.if-place-eq0.false) c.put_placed.ensures
