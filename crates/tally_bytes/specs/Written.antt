-- What writing a tally leaves in a buffer. Assumes nothing.
use Rattle.std.specs.Prelude.{ℕ, List, ltb, length, if◌then◌else◌}
use Rattle.laws.specs.Lent.{◌over◌}
use Rattle.tally.specs.declared.Tally.{Tally}
use Rattle.tally.specs.InBytes.{tally_length, tally_bytes}

-- the buffer with a tally's bytes over its front; as it was where it has fewer than 398
unfoldable pub tally_left : Tally → List ℕ → List ℕ
tally_left t old = if ltb (length old) tally_length then old else (tally_bytes t over old)
