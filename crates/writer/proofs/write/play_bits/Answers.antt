-- `play_bits` meets its contract: without a code each number takes six bits. Assumes nothing.
use mathlib.Core.Path.{sym, ◌∙◌}
use Rattle.writer.proofs.CardsAlone.{bits-alone}
use Rattle.writer.proofs.write.play_bits.Goals as goal

pub returns : goal.returns
returns c = bits-alone _ (sym c.has_code.ensures ∙ c.if-has_code.false)
