-- `check_stopped` meets its contract: a code, or what is no card. Assumes nothing.
use Rattle.std.proofs.Common.{sym, ◌∙◌}
use Rattle.laws.proofs.Tests.{not_both}
use Rattle.contents.proofs.plays.check_stopped.Goals as goal

pub returns-then-begins_code : goal.returns-then-begins_code
returns-then-begins_code c = record {
  no_code = λ e. not_both _ (sym c.begins_code.ensures ∙ c.if-begins_code.true) e;
  code = λ e deal trump opens events o. c.check_coded.ensures deal trump opens events (rw c.after_cards-table.ensures o);
}

pub returns : goal.returns
returns c = record {
  no_code = λ e. rw c.at.ensures;
  code = λ e. not_both _ e (sym c.begins_code.ensures ∙ c.if-begins_code.false);
}
