-- `has_code` meets its contract: after i turns it is known whether one of the first i numbers begins a code. Assumes nothing.
use Rattle.std.proofs.Common.{◌≡◌, take}
use Rattle.laws.specs.Choice.{some}
use Rattle.laws.specs.Events.{begins_code}
use Rattle.contents.proofs.plays.has_code.Given as goal

abbrev pub invariant-loop-number : goal.invariant-loop-number
invariant-loop-number l = l.seen ≡ some begins_code (take l.number-index l.plays)
