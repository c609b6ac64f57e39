-- `merging::joined` meets its contract. The loop's invariant: the first `k` entries of the whole are written, the others are still in the two
-- tallies from `i` and `j` on, and `x` and `y` are the entries there. Assumes nothing.
use mathlib.Core.Path.{◌≡◌}
use Rattle.merging.specs.Joins.{entry_at}
use Rattle.merging.proofs.Reached.{Reached}
use Rattle.merging.proofs.joined.Given as goal

abbrev pub invariant-loop-k : goal.invariant-loop-k
invariant-loop-k l = Reached l.initial.u l.a l.n l.b l.m l.u l.i l.j l.k × (l.x ≡ entry_at l.a.scores l.a.counts l.i l.n) × (l.y ≡ entry_at l.b.scores l.b.counts l.j l.m)
