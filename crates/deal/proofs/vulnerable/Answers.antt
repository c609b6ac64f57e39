-- `vulnerable` meets its contract: by the sides. Assumes nothing.
use Rattle.deal.specs.declared.Vulnerability.TheVariants.{Neither, NorthSouth, EastWest, Both}
use Rattle.deal.proofs.Sides.{side_among}
use Rattle.deal.proofs.vulnerable.Goals as goal

pub returns-in-Neither : goal.returns-in-Neither
returns-in-Neither c = side_among Neither _ _ c.in-Neither.ensures

pub returns-in-NorthSouth : goal.returns-in-NorthSouth
returns-in-NorthSouth c = side_among NorthSouth _ _ c.in-NorthSouth.ensures

pub returns-in-EastWest : goal.returns-in-EastWest
returns-in-EastWest c = side_among EastWest _ _ c.in-EastWest.ensures

pub returns-in-Both : goal.returns-in-Both
returns-in-Both c = side_among Both _ _ c.in-Both.ensures
