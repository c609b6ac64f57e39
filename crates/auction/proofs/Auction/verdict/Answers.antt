-- `Auction::verdict` meets its contract: a return for each case. Assumes nothing.
use mathlib.Core.Path.{◌≡◌, sym, ◌∙◌}
use mathlib.Core.Bool.{false}
use borrow.Author.Rules.{rules}
use borrow.Author.Tests.{lt-ltb, le-ltb}
use lib.Dec.{ltb}
use Rattle.auction.specs.Asked.{over_of, verdict_of}
use Rattle.auction.proofs.Steps.{may_verdict, bid_verdict}
use Rattle.auction.proofs.Auction.verdict.Goals.{Else-code-gt-MARK, Else-is_over}
use Rattle.auction.proofs.Auction.verdict.Goals as goal

-- the code is a call or a mark
code : (c : Else-code-gt-MARK) → ltb 38 c.args.code ≡ false
code c = le-ltb _ _ c.if-code-gt-MARK.false

-- the auction is not over
going : (c : Else-is_over) → over_of c.args.self ≡ false
going c = sym c.is_over.ensures ∙ c.if-is_over.false

pub returns-then-code-gt-MARK : goal.returns-then-code-gt-MARK
unfolding verdict_of
returns-then-code-gt-MARK c = simp (lt-ltb _ _ c.if-code-gt-MARK.true)

pub returns-then-is_over : goal.returns-then-is_over
unfolding verdict_of
returns-then-is_over c = simp (code c.before.before, sym c.is_over.ensures ∙ c.if-is_over.true)

pub returns-then-self : goal.returns-then-self
unfolding verdict_of
returns-then-self c = simp (code c.before.before.before.before, going c.before.before, c.if-self.true) c.marked_verdict.ensures

pub returns-then-code-eq0 : goal.returns-then-code-eq0
unfolding verdict_of
returns-then-code-eq0 c = simp (going c.before.before, c.if-self.false, c.if-code-eq0.true)

pub returns-then-may_double : goal.returns-then-may_double
returns-then-may_double c = may_verdict _ _ (search rules) (search rules) (going c.before.before.before.before.before) c.if-self.false (sym c.if-may_double.true ∙ c.may_double.ensures)

pub returns-then-code-lt3 : goal.returns-then-code-lt3
returns-then-code-lt3 c = may_verdict _ _ (search rules) (search rules) (going c.before.before.before.before.before) c.if-self.false (sym c.if-may_double.false ∙ c.may_double.ensures)

pub returns-then-self-code : goal.returns-then-self-code
returns-then-self-code c = bid_verdict _ _ (search rules) (search rules) (going c.before.before.before.before.before) c.if-self.false (lt-ltb _ _ c.if-self-code.true)

pub returns : goal.returns
returns c = bid_verdict _ _ (search rules) (search rules) (going c.before.before.before.before.before) c.if-self.false (le-ltb _ _ c.if-self-code.false)
