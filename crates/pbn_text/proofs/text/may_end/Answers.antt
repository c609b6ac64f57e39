-- `pbn_text::text::may_end` meets its contract. Assumes nothing.
use mathlib.Core.Logic.{inl, inr}
use Rattle.laws.specs.PbnReading.{may_end}
use Rattle.pbn_text.proofs.WholeText.{cards_end, no_end}
use Rattle.pbn_text.proofs.text.may_end.Goals as goal

pub returns-in-Calls : goal.returns-in-Calls
unfolding may_end
returns-in-Calls c = elim c.in-Calls.is [ inl e ↦ rw e | inr e ↦ rw e ]

pub returns-in-Cards : goal.returns-in-Cards
returns-in-Cards c = rw c.in-Cards.is (cards_end c.in-Cards.rows)

pub returns-in_default : goal.returns-in_default
returns-in_default c = no_end c.args.stage c.in_default.not-Calls c.in_default.not-CallsOver c.in_default.not-Cards
