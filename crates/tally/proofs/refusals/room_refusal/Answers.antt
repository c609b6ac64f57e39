-- `tally::refusals::room_refusal` meets its contract, by its test. Assumes nothing.
use Rattle.std.proofs.Common.{◌+◌, arith}
use borrow.Author.Tests.{lt-ltb, le-ltb}
use Rattle.laws.specs.Tally.{room_refusal}
use Rattle.tally.proofs.refusals.room_refusal.Goals as goal

pub returns-then-from-gt128 : goal.returns-then-from-gt128
unfolding room_refusal
returns-then-from-gt128 c = rw (c.at.ensures, lt-ltb 128 (c.args.results + c.args.more) (omega arith))

pub returns : goal.returns
unfolding room_refusal
returns c = rw (le-ltb 128 (c.args.results + c.args.more) (omega arith))
