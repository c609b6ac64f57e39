-- `pbn_words::words::is_card` meets its contract. Assumes nothing.
use Rattle.std.proofs.Common.{◌∙◌}
use Rattle.laws.specs.PbnText.{card_word}
use Rattle.pbn_words.proofs.SameBytes.{equal_bytes}
use Rattle.pbn_words.proofs.words.is_card.Goals as goal

pub returns : goal.returns
unfolding card_word
returns c = rw (← c.suit_letter.ensures, ← c.rank_letter.ensures) (rw c.as_slice.ensures at c.eq.ensures ∙ equal_bytes c.args.word.now _)
