-- `play::with_played` meets its contract: the places before `i` are changed. The measure is what is left of 52. Assumes nothing.
use mathlib.Core.Path.{◌≡◌, refl}
use borrow.Author.Rules.{rules}
use lib.ListN.{length}
use borrow.Author.Tests.{eq-eqb, ne_eqb}
use Rattle.play.proofs.Placed.{ascending, none_passed, passes, all-passed}
use Rattle.play.proofs.with_played.Goals.{Start, then-i-card, else-i-card}
use Rattle.play.proofs.with_played.Goals as goal

long : (c : Start) → length c.args.holders ≡ 52
long c = search rules

pub loop-i-init : goal.loop-i-init
loop-i-init c = none_passed _ _ (long c)

pub loop-i-preserved : goal.loop-i-preserved
unfolding ascending
loop-i-preserved c =
    let long : length c.args.holders ≡ 52 = search rules in
    passes _ _ long c.loop-i.invariant c.loop-i-test.true refl
    (elim c.if-i-card.branch [
      | then-i-card w ↦ rw (w.holders-is, eq-eqb _ _ w.if-i-card.true)
      | else-i-card w ↦ rw (w.holders-is, ne_eqb _ _ w.if-i-card.false)
    ])

pub returns : goal.returns
returns c = all-passed _ _ (long c.before.before) c.loop-i.invariant c.loop-i-test.false
