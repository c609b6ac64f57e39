-- `team_match::totals` meets its contract. Assumes nothing.
use Rattle.std.proofs.Common.{sym}
use Rattle.team_match.specs.Matches.{totals_on}
use Rattle.team_match.proofs.totals.Goals as goal

pub returns-then-not-is_match : goal.returns-then-not-is_match
unfolding totals_on
returns-then-not-is_match c = rw (sym c.if-not-is_match.ensures)

pub returns : goal.returns
unfolding totals_on
returns c = rw (sym c.if-not-is_match.ensures, c.opposite.ensures)
