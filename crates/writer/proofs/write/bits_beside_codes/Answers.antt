-- `bits_beside_codes` meets its contract: the bits so far and those to come are all of them. Assumes nothing.
use mathlib.Core.Path.{sym, ◌∙◌}
use native.Mathlib.Omega.{arith}
use Rattle.writer.proofs.Measuring.{measure_begins, measure_ends, measure_card, measure_code}
use Rattle.writer.proofs.write.bits_beside_codes.Goals as goal

pub loop-i-init : goal.loop-i-init
loop-i-init c = (measure_begins _ c.args.plays.whole, omega arith)

pub overflow_add-sum : goal.overflow_add-sum
overflow_add-sum c = omega (arith, c.code_bits-sum.ensures.most, c.loop-i.invariant.0.few, c.loop-i-test.true, c.requires)

pub loop-i-preserved-then-begins_code : goal.loop-i-preserved-then-begins_code
loop-i-preserved-then-begins_code c =
    let n = c.code_bits-sum.ensures in (
      measure_code _ c.loop-i.invariant.0 c.loop-i-test.true _ n.value n.most (sym c.begins_code.ensures ∙ c.if-begins_code.true),
      omega (arith, c.loop-i-test.true),
    )

pub overflow_add-sum-else-begins_code : goal.overflow_add-sum-else-begins_code
overflow_add-sum-else-begins_code c = omega (arith, c.loop-i.invariant.0.few, c.loop-i-test.true, c.requires)

pub loop-i-preserved : goal.loop-i-preserved
loop-i-preserved c = (measure_card _ c.loop-i.invariant.0 c.loop-i-test.true (sym c.begins_code.ensures ∙ c.if-begins_code.false), omega (arith, c.loop-i-test.true))

pub returns : goal.returns
returns c = measure_ends _ c.loop-i.invariant.0 (omega arith)
