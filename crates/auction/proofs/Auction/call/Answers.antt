-- `Auction::call` meets its contract: a return for each kind of code. Assumes nothing.
use borrow.Author.Rules.{rules}
use Rattle.laws.specs.Auction.{strain_of}
use Rattle.auction.specs.Position.{first_place, after_call}
use Rattle.auction.proofs.Steps.{marked, doubled, no_call_lem, bid}
use Rattle.auction.proofs.Auction.call.Goals as goal

pub returns-then-code-eq-MARK : goal.returns-then-code-eq-MARK
returns-then-code-eq-MARK c = marked _ _ c.if-code-eq-MARK.true

pub returns-then-code-eq0 : goal.returns-then-code-eq0
unfolding after_call
returns-then-code-eq0 c = simp (c.next_seat.ensures, c.saturating_sub.ensures, c.if-code-eq0.true)

pub returns-then-code-lt3 : goal.returns-then-code-lt3
returns-then-code-lt3 c = doubled _ _ (search rules) (search rules) c.next_seat.ensures c.passes_to_end.ensures c.doubled.ensures

pub returns-then-code-gt-HIGHEST : goal.returns-then-code-gt-HIGHEST
returns-then-code-gt-HIGHEST c = no_call_lem _ _ (search rules) c.next_seat.ensures c.passes_to_end-then-code-gt-HIGHEST.ensures

pub returns : goal.returns
unfolding first_place strain_of
returns c = bid _ _ (search rules) (search rules) c.next_seat.ensures (rw c.of.ensures at c.entered.ensures)
