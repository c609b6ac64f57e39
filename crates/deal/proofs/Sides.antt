-- The table of the vulnerable sides is Law 2's, and so are the seats that they include. Assumes nothing.
use Rattle.std.proofs.Common.{◌≡◌, refl, sym, ◌∙◌, List, [], ◌∷◌, map, ℕ, ◌-◌, ◌%◌, Bool, true, false, get_or}
use lib.ListN.{get_or-map}
use lib.Dec.{eqb}
use Rattle.laws.specs.Law2.{sixteen_boards, vulnerability, includes, vulnerable}
use Rattle.deal.specs.declared.Vulnerability.{Vulnerability}
use Rattle.deal.specs.declared.Vulnerability.TheVariants.{Neither, NorthSouth, EastWest, Both}
use Rattle.deal.specs.Sides.{law_of}

-- the sides of the sixteen boards, as the code has them
abbrev pub sides : List Vulnerability
sides =
    Neither ∷ NorthSouth ∷ EastWest ∷ Both
    ∷ NorthSouth ∷ EastWest ∷ Both ∷ Neither
    ∷ EastWest ∷ Both ∷ Neither ∷ NorthSouth
    ∷ Both ∷ Neither ∷ NorthSouth ∷ EastWest
    ∷ []

-- the whole table, computed
table : map law_of sides ≡ sixteen_boards
unfolding sixteen_boards
table = refl

pub sides_at : (board before : ℕ) → before ≡ board - 1 → law_of (get_or sides (before % 16) Neither) ≡ vulnerability board
unfolding vulnerability
sides_at board before e =
    rw e
    (sym (get_or-map law_of sides ((board - 1) % 16) Neither) ∙ rw table)

-- whether the sides include the side of a seat
abbrev pub side_in : Vulnerability → ℕ → Bool
side_in Neither seat = false
side_in NorthSouth seat = eqb (seat % 2) 0
side_in EastWest seat = eqb (seat % 2) 1
side_in Both seat = true

among : (v : Vulnerability) (seat : ℕ) → side_in v seat ≡ includes (law_of v) seat
unfolding includes
among Neither seat = refl
among NorthSouth seat = refl
among EastWest seat = refl
among Both seat = refl

pub side_among : (v : Vulnerability) (board seat : ℕ) → law_of v ≡ vulnerability board → side_in v seat ≡ vulnerable board seat
unfolding vulnerable
side_among v board seat e = among v seat ∙ rw e
