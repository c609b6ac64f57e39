-- `has_code` meets its contract: a number more is looked at. Assumes nothing.
use Rattle.std.proofs.Common.{refl, sym}
use Rattle.laws.specs.Choice.{some}
use Rattle.contents.proofs.CodesSeen.{seen_more}
use Rattle.contents.proofs.plays.has_code.Goals as goal

pub loop-number-init : goal.loop-number-init
unfolding some
loop-number-init c = refl

pub loop-number-preserved : goal.loop-number-preserved
loop-number-preserved c = rw (c.loop-number.invariant, c.begins_code-seen.ensures) (sym (seen_more _ _ c.loop-number-test.true))
