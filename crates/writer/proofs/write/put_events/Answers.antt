-- `put_events` meets its contract: what is put, and the fields to come, are all of them. Assumes nothing.
use Prim.Native.Nat.{◌<◌, ◌+◌}
use mathlib.Core.Path.{sym, ◌∙◌}
use native.Mathlib.Omega.{arith}
use borrow.Author.Rules.{rules}
use lib.ListN.{length}
use Rattle.writer.proofs.Writing.{both, plays_begin, plays-long, plays_end, plays-card, plays_code, plays-room}
use Rattle.writer.proofs.write.put_events.Goals.{After-begins_code, After-put_code-q, At-loop-i, Start, Then-begins_code}
use Rattle.writer.proofs.write.put_events.Goals as goal

pub loop-i-init : goal.loop-i-init
loop-i-init c = (plays_begin _ _ _ c.args.plays.whole, omega arith)

pub bounds-plays-i-then-begins_code : goal.bounds-plays-i-then-begins_code
bounds-plays-i-then-begins_code c = omega (arith, (let h : (c.loop-i.i + 2 < length c.args.plays.numbers.now) = plays-room _ _ _ c.loop-i.invariant.0 c.loop-i-test.true (sym c.begins_code.ensures ∙ c.if-begins_code.true) in h))

pub overflow_add-i-then-begins_code : goal.overflow_add-i-then-begins_code
overflow_add-i-then-begins_code c = omega (arith, (let h : length c.args.plays.numbers.now < 9223372036854775808 = search rules in h), (let h : (c.loop-i.i + 2 < length c.args.plays.numbers.now) = plays-room _ _ _ c.loop-i.invariant.0 c.loop-i-test.true (sym c.begins_code.ensures ∙ c.if-begins_code.true) in h))

pub bounds-plays-i-then-begins_code-2 : goal.bounds-plays-i-then-begins_code-2
bounds-plays-i-then-begins_code-2 c = omega (arith, (let h : (c.loop-i.i + 2 < length c.args.plays.numbers.now) = plays-room _ _ _ c.loop-i.invariant.0 c.loop-i-test.true (sym c.begins_code.ensures ∙ c.if-begins_code.true) in h))

pub overflow_add-i-then-begins_code-2 : goal.overflow_add-i-then-begins_code-2
overflow_add-i-then-begins_code-2 c = omega (arith, (let h : length c.args.plays.numbers.now < 9223372036854775808 = search rules in h), (let h : (c.loop-i.i + 2 < length c.args.plays.numbers.now) = plays-room _ _ _ c.loop-i.invariant.0 c.loop-i-test.true (sym c.begins_code.ensures ∙ c.if-begins_code.true) in h))

pub loop-i-preserved-then-begins_code : goal.loop-i-preserved-then-begins_code
loop-i-preserved-then-begins_code c = (
  plays_code _ _ _ c.loop-i.invariant.0 c.loop-i-test.true (sym c.begins_code.ensures ∙ c.if-begins_code.true) (c.put_code-q.ensures.packer, c.put_code-q.ensures.bytes),
  omega (arith, c.loop-i-test.true),
)

pub loop-i-preserved : goal.loop-i-preserved
loop-i-preserved c = (
  plays-card _ _ _ c.loop-i.invariant.0 c.loop-i-test.true (sym c.begins_code.ensures ∙ c.if-begins_code.false)
      (rw c.from.ensures at (both c.put-q.ensures.packer c.put-q.ensures.bytes)),
  omega (arith, c.loop-i-test.true),
)

pub shape_of-out : goal.shape_of-out
shape_of-out c = plays-long _ _ _ c.loop-i.invariant.0

pub returns : goal.returns
returns c = record { packer = (plays_end _ _ _ c.loop-i.invariant.0 (omega arith)).0; bytes = (plays_end _ _ _ c.loop-i.invariant.0 (omega arith)).1 }
