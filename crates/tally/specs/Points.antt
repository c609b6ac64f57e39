-- The matchpoints that a tally gives for a result. Assumes nothing.
use Rattle.std.specs.Prelude.{if◌then◌else◌}
use Rattle.laws.specs.Refusals.{Placed, refused_at, malformed_tally}
use Rattle.laws.specs.Law78.{Points as BothSides, matchpoints}
use Rattle.laws.specs.Tally.{Result, asked}
use Rattle.tally.specs.declared.Tally.{Tally}
use Rattle.tally.specs.Tallies.{results_in, well_formed}

-- asked for a result of a tally: 17 if the tally isn't well formed, else as for its list of results
unfoldable pub matchpoints_of : Tally → Result → Placed BothSides
matchpoints_of t r = if well_formed t then asked matchpoints (results_in t) r else refused_at malformed_tally 0
