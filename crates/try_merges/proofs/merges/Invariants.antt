-- The loop of `merges`: no more merges are accepted than were made.
use Rattle.std.proofs.Common.{◌≤◌}
use Rattle.try_merges.proofs.merges.Given as goal

abbrev pub invariant-loop : goal.invariant-loop
invariant-loop l = l.sum ≤ l.counter
