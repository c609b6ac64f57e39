-- `may_play` meets its contract: a return for each case. Assumes nothing.
use borrow.Author.Rules.{rules}
use borrow.Author.Tests.{le-leb}
use lib.ListN.{length}
use mathlib.Core.Path.{◌≡◌}
use Rattle.best_play.specs.Search.{may_in}
use Rattle.best_play.proofs.Cards.{elsewhere, as_lead, in_suit, off_suit}
use Rattle.best_play.proofs.may_play.Goals.{Start}
use Rattle.best_play.proofs.may_play.Goals as goal

-- every card has a holder
all_held : (s : Start) → length s.args.p.holders ≡ 52
all_held s = search rules

pub returns-then-card-ge52 : goal.returns-then-card-ge52
unfolding may_in
returns-then-card-ge52 c = simp (le-leb _ _ c.if-card-ge52.true)

pub returns-then-p-at : goal.returns-then-p-at
returns-then-p-at c =
    let n = all_held c.before.before.before.before in
    elsewhere c.args.p c.args.card _ n c.if-card-ge52.false c.turn.ensures c.if-p-at.true

pub returns-then-p-eq0 : goal.returns-then-p-eq0
returns-then-p-eq0 c =
    let n = all_held c.before.before.before.before.before in
    as_lead c.args.p c.args.card _ n c.if-card-ge52.false c.turn.ensures c.if-p-at.false c.if-p-eq0.true

pub returns-then-card-p : goal.returns-then-card-p
returns-then-card-p c =
    let n = all_held c.before.before.before.before.before.before in
    in_suit c.args.p c.args.card _ n c.if-card-ge52.false c.turn.ensures c.if-p-at.false c.if-p-eq0.false c.if-card-p.true

pub returns : goal.returns
returns c =
    let n = all_held c.before.before.before.before.before.before.before.before in
    off_suit c.args.p c.args.card _ n c.if-card-ge52.false c.turn.ensures c.if-p-at.false c.if-p-eq0.false c.if-card-p.false
    c.hand.ensures c.holds_suit.ensures
