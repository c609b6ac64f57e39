-- `merging::calls::single` meets its contract: place 0 is written. Assumes nothing.
use mathlib.Core.Path.{◌≡◌, ap}
use mathlib.Core.List.{[], ◌∷◌}
use lib.IntN.{ℤ}
use lib.ListN.{set}
use Rattle.laws.specs.Padded.{padded}
use mir.Facts.{to_z-of_z}
use Rattle.tally.specs.declared.Tally.{Tally}
use Rattle.tally.specs.Entries.{entries_of, enter}
use Rattle.tally.specs.Tallies.{tally_with, tally_for}
use Rattle.merging.proofs.calls.single.Goals as goal

wrote_one : (none : Tally) (s : ℤ) → none ≡ tally_for none.board none.deal []
    → record { board = none.board; deal = none.deal; scores = set none.scores 0 s; counts = set none.counts 0 1 }
    ≡ tally_for none.board none.deal (s ∷ [])
unfolding tally_for tally_with entries_of enter padded
wrote_one none s e = ap (λ (t : Tally). record { board = none.board; deal = none.deal; scores = set t.scores 0 s; counts = set t.counts 0 1 }) e

pub returns : goal.returns
returns c = rw (to_z-of_z c.ranges.score) (wrote_one c.args.none c.args.score c.requires)
