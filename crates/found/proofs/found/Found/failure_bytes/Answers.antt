-- `found::found::Found::failure_bytes` meets its contract: the bytes are filled in from the last play on. The measure is `i`. Assumes nothing.
use Rattle.std.proofs.Common.{arith, refl}
use Rattle.found.specs.Told.{lowest_of}
use Rattle.found.proofs.Filling.{fill_begins, fill_goes, fill_ends}
use Rattle.found.proofs.found.Found.failure_bytes.Goals as goal

pub loop-i-init : goal.loop-i-init
loop-i-init c = fill_begins (omega arith)

pub overflow_mul-at : goal.overflow_mul-at
overflow_mul-at c = omega (arith, c.loop-i.invariant.few, c.loop-i.invariant.most)

pub overflow_add-bytes : goal.overflow_add-bytes
overflow_add-bytes c = omega arith

pub bounds-bytes-at : goal.bounds-bytes-at
bounds-bytes-at c = let r = c.loop-i.invariant in omega (arith, r.few, r.most)

pub bounds-bytes-at-in-loop-i : goal.bounds-bytes-at-in-loop-i
bounds-bytes-at-in-loop-i c = let r = c.loop-i.invariant in omega (arith, r.few, r.most)

pub loop-i-preserved : goal.loop-i-preserved
unfolding lowest_of
loop-i-preserved c = fill_goes c.loop-i.invariant c.loop-i-test.true c.popped-words.ensures refl refl

pub returns : goal.returns
returns c = fill_ends _ c.loop-i.invariant c.loop-i-test.false
