-- How long a part is. Assumes nothing.
use Rattle.std.specs.Prelude.{ℕ, suc, List, [], ◌∷◌, eqb, if◌then◌else◌}

-- how many bytes stand before the first that parts
unfoldable pub part_length : ℕ → List ℕ → ℕ
part_length byte [] = 0
part_length byte (b ∷ bytes) = if eqb b byte then 0 else suc (part_length byte bytes)
