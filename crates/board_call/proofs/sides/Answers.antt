-- `sides` meets its contract, by what is vulnerable. Assumes nothing.
use Rattle.deal.specs.Sides.{sides_of}
use Rattle.board_call.proofs.sides.Goals as goal

pub returns-in-Neither : goal.returns-in-Neither
unfolding sides_of
returns-in-Neither c = rw (← c.vulnerable_sides.ensures, c.in-Neither.is)

pub returns-in-NorthSouth : goal.returns-in-NorthSouth
unfolding sides_of
returns-in-NorthSouth c = rw (← c.vulnerable_sides.ensures, c.in-NorthSouth.is)

pub returns-in-EastWest : goal.returns-in-EastWest
unfolding sides_of
returns-in-EastWest c = rw (← c.vulnerable_sides.ensures, c.in-EastWest.is)

pub returns-in-Both : goal.returns-in-Both
unfolding sides_of
returns-in-Both c = rw (← c.vulnerable_sides.ensures, c.in-Both.is)
