-- `pbn_words::words::is_bid` meets its contract. Assumes nothing.
use Rattle.std.proofs.Common.{◌∙◌}
use borrow.Author.Tests.{eq-eqb, ne_eqb}
use Rattle.laws.specs.PbnText.{strain_word}
use Rattle.pbn_words.proofs.SameBytes.{equal_bytes}
use Rattle.pbn_words.proofs.words.is_bid.Goals as goal

pub returns-then-strain-eq4 : goal.returns-then-strain-eq4
unfolding strain_word
returns-then-strain-eq4 c = rw (eq-eqb _ _ c.if-strain-eq4.true) (rw c.as_slice.ensures at c.eq.ensures ∙ equal_bytes c.args.word.now _)

pub returns : goal.returns
unfolding strain_word
returns c = rw (ne_eqb _ _ c.if-strain-eq4.false, ← c.suit_letter.ensures) (rw c.as_slice-2.ensures at c.eq-2.ensures ∙ equal_bytes c.args.word.now _)
