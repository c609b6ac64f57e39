-- `pbn_text::text::start_text` meets its contract. Assumes nothing.
use Rattle.pbn_text.proofs.KeptNumbers.{none_kept}
use Rattle.pbn_text.proofs.WholeText.{starts}
use Rattle.pbn_text.proofs.text.start_text.Goals as goal

pub returns : goal.returns
returns c = starts _ _ (none_kept _ c.default.ensures.0 c.default.ensures.1) (none_kept _ c.default-2.ensures.0 c.default-2.ensures.1)
