-- `count_beside_codes` meets its contract: the cards so far and those to come are all of them. Assumes nothing.
use mathlib.Core.Path.{sym, ◌∙◌}
use native.Mathlib.Omega.{arith}
use Rattle.contents.proofs.Items.{count-begins, count_ends, count-card, count_code}
use Rattle.contents.proofs.plays.count_beside_codes.Goals as goal

pub loop-i-init : goal.loop-i-init
loop-i-init c = (count-begins _, omega arith)

pub loop-i-preserved-then-begins_code : goal.loop-i-preserved-then-begins_code
loop-i-preserved-then-begins_code c = (count_code _ c.loop-i.invariant.0 c.loop-i-test.true (sym c.begins_code.ensures ∙ c.if-begins_code.true), omega (arith, c.loop-i-test.true))

pub overflow_add-cards : goal.overflow_add-cards
overflow_add-cards c = omega (arith, c.loop-i.invariant.0.few, c.loop-i-test.true)

pub loop-i-preserved : goal.loop-i-preserved
loop-i-preserved c = (count-card _ c.loop-i.invariant.0 c.loop-i-test.true (sym c.begins_code.ensures ∙ c.if-begins_code.false), omega (arith, c.loop-i-test.true))

pub returns : goal.returns
returns c = count_ends _ c.loop-i.invariant.0 (omega arith)
