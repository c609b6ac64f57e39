-- The vulnerable sides of a board as the code names them, and as a number: 1 for North-South, and 2 for East-West.
-- Assumes nothing.
use Rattle.std.specs.Prelude.{ℕ}
use Rattle.laws.specs.Law2.{Vulnerability, none, ns, ew, both}
use Rattle.deal.specs.declared.Vulnerability.{Vulnerability as Named}
use Rattle.deal.specs.declared.Vulnerability.TheVariants.{Neither, NorthSouth, EastWest, Both}

-- the sides as the Laws name them
abbrev pub law_of : Named → Vulnerability
law_of Neither = none
law_of NorthSouth = ns
law_of EastWest = ew
law_of Both = both

-- the number of the vulnerable sides
unfoldable pub sides_of : Vulnerability → ℕ
sides_of none = 0
sides_of ns = 1
sides_of ew = 2
sides_of both = 3
