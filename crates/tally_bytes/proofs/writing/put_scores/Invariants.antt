-- `put_scores` meets its contract: after i turns the bytes of the first i scores are stored. Assumes nothing.
use Prim.Native.Nat.{◌*◌}
use mathlib.Core.Path.{◌≡◌}
use lib.ListN.{length, take}
use lib.Seq.{sets}
use Rattle.tally.specs.InBytes.{score_bytes}
use Rattle.tally_bytes.proofs.writing.put_scores.Given as goal

abbrev pub invariant-loop-i : goal.invariant-loop-i
invariant-loop-i l = (l.out ≡ sets l.initial.out 14 (take (2 * l.i) (score_bytes l.scores))) × (length l.out ≡ length l.initial.out)
