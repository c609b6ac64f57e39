-- A list in an array of fixed size: its members, then a filler in every place that is left.
-- Assumes nothing.
use Rattle.std.specs.Prelude.{ℕ, zero, suc, List, [], ◌∷◌}

-- n places: the members of the list as far as there is room, then z
unfoldable pub padded : {A : Type 0} → A → ℕ → List A → List A
padded z zero l = []
padded z (suc n) [] = z ∷ padded z n []
padded z (suc n) (x ∷ l) = x ∷ padded z n l
