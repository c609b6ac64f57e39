-- What bytes say as a number. Assumes nothing.
use Rattle.std.specs.Prelude.{ℕ, List, Option, Some, None, if◌then◌else◌}
use Rattle.laws.specs.Decimal.{is_number, value}

-- the number of one to five digits; other bytes say none
unfoldable pub number_on : List ℕ → Option ℕ
number_on bytes = if is_number bytes then Some (value bytes) else None
