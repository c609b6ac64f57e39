-- `play::Play::verdict` meets its contract. Assumes nothing.
use mathlib.Core.Path.{◌≡◌, sym, ◌∙◌}
use lib.ListN.{length}
use borrow.Author.Tests.{le-leb}
use Rattle.play.proofs.Steps.{held, played_already, not-held}
use Rattle.play.specs.Position.{verdict_of}
use borrow.Author.Rules.{rules}
use Rattle.play.proofs.Play.verdict.Goals as goal

pub returns-then-card-ge52 : goal.returns-then-card-ge52
unfolding verdict_of
returns-then-card-ge52 c = simp (le-leb _ _ c.if-card-ge52.true)

pub returns-then-self-at : goal.returns-then-self-at
returns-then-self-at c =
    let n : length c.args.self.holders ≡ 52 = search rules in
    held c.args.self c.args.card _ n c.if-card-ge52.false c.turn-seat.ensures c.if-self-at.true

pub returns-then-was_dealt : goal.returns-then-was_dealt
returns-then-was_dealt c =
    let n : length c.args.self.holders ≡ 52 = search rules in
    played_already c.args.self c.args.card _ n c.if-card-ge52.false c.turn-seat.ensures
    c.if-self-at.false (sym c.was_dealt.ensures ∙ c.if-was_dealt.true)

pub returns : goal.returns
returns c =
    let n : length c.args.self.holders ≡ 52 = search rules in
    not-held c.args.self c.args.card _ n c.if-card-ge52.false c.turn-seat.ensures
    c.if-self-at.false (sym c.was_dealt.ensures ∙ c.if-was_dealt.false)
