-- What the function that reads a Deal line answers. Assumes nothing.
use Rattle.std.specs.Prelude.{ℕ, List, Option, Some, None, if◌then◌else◌}
use Rattle.laws.specs.PbnReading.{first_in, holders_in, is_deal_line}
use Rattle.pbn_deal.specs.declared.deal_line.Deal.{Deal}

-- the seat and the holders that a Deal line says
unfoldable pub deal_on : List ℕ → Option Deal
deal_on line = if is_deal_line line then Some (record { first = first_in line; holders = holders_in line }) else None
