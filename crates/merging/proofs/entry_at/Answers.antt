-- `merging::entry_at` meets its contract, by its test. Assumes nothing.
use borrow.Author.Rules.{rules}
use borrow.Author.Tests.{lt-ltb, le-ltb}
use lib.IntN.{pos}
use lib.ListN.{get_or}
use mir.Syntax.{w16}
use mir.Val.{SFits}
use mir.Facts.{to_z-of_z}
use Rattle.merging.specs.Joins.{entry_at}
use Rattle.merging.proofs.entry_at.Goals as goal

pub returns-then-i-end : goal.returns-then-i-end
unfolding entry_at
returns-then-i-end c =
    let a = c.args in
    let f : SFits w16 (get_or a.scores.now a.i (pos 0)) = search rules in
    rw (to_z-of_z f, lt-ltb a.i a.end (search rules))

pub returns : goal.returns
unfolding entry_at
returns c = rw (le-ltb c.args.i c.args.end c.if-i-end.false)
