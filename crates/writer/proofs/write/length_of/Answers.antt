-- `length_of` meets its contract. Assumes nothing.
use Rattle.std.proofs.Common.{ap, not, ◌∙◌}
use Rattle.writer.proofs.Lengths.{unclaimed_length, claimed_length}
use Rattle.writer.proofs.write.length_of.Goals as goal

pub returns-then-is_none : goal.returns-then-is_none
returns-then-is_none c = unclaimed_length _ _ _ (c.is_none.ensures ∙ ap not c.if-is_none.true) c.min.ensures

pub returns : goal.returns
returns c = claimed_length _ _ _ (c.is_none.ensures ∙ ap not c.if-is_none.false) c.min.ensures
