-- No point for a claim, said two ways. Assumes nothing.
use mathlib.Core.Path.{◌≡◌, refl}
use mathlib.Core.Bool.{Bool, true, false, not, ◌&&◌, ◌||◌}

pub no_point : (out point : Bool) → (out || not point) ≡ not (not out && point)
no_point true point = refl
no_point false point = refl
