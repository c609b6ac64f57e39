-- A run that takes bytes one after the other. Assumes nothing.
use Rattle.std.specs.Prelude.{ℕ, List, [], ◌∷◌}
use Rattle.tree_run.specs.declared.Run.{Run}
use Rattle.tree_run.specs.Runs.{taken_byte}

-- the run after some bytes
unfoldable pub fed_of : Run → List ℕ → Run
fed_of r [] = r
fed_of r (b ∷ bytes) = fed_of (taken_byte r b).run bytes
