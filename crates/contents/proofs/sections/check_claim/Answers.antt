-- `check_claim` meets its contract: a law of Checks for each way out. Assumes nothing.
use Rattle.std.proofs.Common.{sym, ◌∙◌}
use Rattle.contents.proofs.Checks.{elsewhere, too_many, agreed-to}
use Rattle.contents.proofs.sections.check_claim.Goals as goal

pub returns-in_default : goal.returns-in_default
returns-in_default c = rw c.in_default.is c.check_unclaimed.ensures

pub returns-then-not-may_claim : goal.returns-then-not-may_claim
returns-then-not-may_claim c =
    rw (c.in-Some.is, c.at.ensures, c.from.ensures) (elsewhere _ _ _ (sym c.may_claim.ensures ∙ c.if-not-may_claim.true))

pub returns-then-from-tricks : goal.returns-then-from-tricks
returns-then-from-tricks c =
    rw (c.in-Some.is, c.at-then-from-tricks.ensures, c.min.ensures)
    (too_many _ _ _ (sym c.may_claim.ensures ∙ c.if-not-may_claim.false)
    (rw (c.from-2.ensures, c.tricks_left.ensures) at c.if-from-tricks.true))

pub returns : goal.returns
returns c =
    rw c.in-Some.is
    (agreed-to _ _ _ (sym c.may_claim.ensures ∙ c.if-not-may_claim.false)
    (rw (c.from-2.ensures, c.tricks_left.ensures) at c.if-from-tricks.false))
