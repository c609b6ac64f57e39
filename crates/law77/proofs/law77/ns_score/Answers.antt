-- `ns_score` meets its contract: a score is its own in 64 bits, and its negation wraps. Assumes nothing.
use Rattle.std.proofs.Common.{sym, ◌∙◌}
use Rattle.std.proofs.lemmas.Int.{wrapping_neg_is, int_wrap_fits}
use borrow.Author.Tests.{eq-eqb, ne_eqb}
use mir.Syntax.{w64}
use mir.Facts.{to_z-of_z}
use Rattle.laws.specs.Law77.{ns_score}
use Rattle.law77.proofs.law77.ns_score.Goals as goal

pub returns-then-declarer-eq0 : goal.returns-then-declarer-eq0
unfolding ns_score
returns-then-declarer-eq0 c = rw (to_z-of_z c.ranges.score, eq-eqb _ _ c.if-declarer-eq0.true) (sym (int_wrap_fits w64 c.args.score c.ranges.score))

pub returns : goal.returns
unfolding ns_score
returns c =
    let whole = rw (to_z-of_z c.ranges.score) at c.wrapping_neg.ensures in
    rw (to_z-of_z {w = w64} (record { sfits = c.wrapping_neg.type_inv }), ne_eqb _ _ c.if-declarer-eq0.false)
    (whole ∙ wrapping_neg_is w64 c.args.score c.ranges.score)
