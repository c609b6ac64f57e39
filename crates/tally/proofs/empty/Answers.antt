-- `tally::empty` meets its contract: all places are written. Assumes nothing.
use mathlib.Core.Path.{refl}
use Rattle.laws.specs.Padded.{padded}
use Rattle.tally.specs.Entries.{entries_of}
use Rattle.tally.specs.Tallies.{tally_with, tally_for}
use Rattle.tally.proofs.empty.Goals as goal

pub returns : goal.returns
unfolding tally_for tally_with entries_of padded
returns c = refl
