-- `pbn_text::text::ended` meets its contract. Assumes nothing.
use Rattle.std.proofs.Common.{sym, ◌∙◌}
use Rattle.pbn_text.proofs.WholeText.{bytes_left, may_end_lem, may_not}
use Rattle.pbn_text.proofs.text.ended.Goals as goal

pub returns-then-rest-ne0 : goal.returns-then-rest-ne0
returns-then-rest-ne0 c s n l e is from len = bytes_left _ _ s n e is from l (λ z. c.if-rest-ne0.true (len ∙ z))

pub returns-then-may_end : goal.returns-then-may_end
returns-then-may_end c s n l e is from len = may_end_lem _ _ s n e is from l (sym len ∙ c.if-rest-ne0.false) (sym c.may_end.ensures ∙ c.if-may_end.true)

pub returns : goal.returns
returns c s n l e is from len = may_not _ _ s n e is from l (sym c.may_end.ensures ∙ c.if-may_end.false)
