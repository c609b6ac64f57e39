-- `merging::higher` meets its contract, by its tests. Assumes nothing.
use Rattle.std.proofs.Common.{ap, rules}
use mir.Syntax.{w16}
use mir.Val.{SFits, of_z}
use mir.Facts.{to_z-of_z}
use Rattle.laws.proofs.Scores.{true_same, ne_same}
use Rattle.tally.specs.Entries.{score}
use Rattle.merging.specs.Joins.{higher_of}
use Rattle.tally.proofs.Places.{same_of}
use Rattle.merging.proofs.higher.Goals as goal

pub returns-then-x-y : goal.returns-then-x-y
unfolding higher_of
returns-then-x-y c =
    let f : SFits w16 c.args.x.score = search rules in
    let g : SFits w16 c.args.y.score = search rules in
    rw (to_z-of_z f, true_same (score c.args.x) (score c.args.y) (same_of _ _ f g c.if-x-y.true))

pub returns-then-y-x : goal.returns-then-y-x
unfolding higher_of
returns-then-y-x c =
    let f : SFits w16 c.args.x.score = search rules in
    let g : SFits w16 c.args.y.score = search rules in
    rw (to_z-of_z f, ne_same (score c.args.x) (score c.args.y) (λ e. c.if-x-y.false (ap (of_z w16) e)), rw (to_z-of_z f, to_z-of_z g) at c.if-y-x.true)

pub returns : goal.returns
unfolding higher_of
returns c =
    let f : SFits w16 c.args.x.score = search rules in
    let g : SFits w16 c.args.y.score = search rules in
    rw (to_z-of_z g, ne_same (score c.args.x) (score c.args.y) (λ e. c.if-x-y.false (ap (of_z w16) e)), rw (to_z-of_z f, to_z-of_z g) at c.if-y-x.false)
