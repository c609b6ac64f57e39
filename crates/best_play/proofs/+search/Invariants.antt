-- The cards left fall at each call of `most` and `least`; a card more is tried at each turn of their loops. Assumes nothing.
use Rattle.std.proofs.Common.{◌≡◌, ◌-◌, ◌≤◌}
use Rattle.laws.specs.BestPlay.{greatest, smallest}
use Rattle.best_play.specs.Search.{within, may_in}
use Rattle.best_play.proofs.Search.{worth_in}
use Rattle.best_play.proofs.+search.Given as goal

abbrev pub decreases-least : goal.decreases-least
decreases-least l = l.left

abbrev pub decreases-most : goal.decreases-most
decreases-most l = l.left

abbrev pub invariant-least-loop-card : goal.invariant-least-loop-card
invariant-least-loop-card l = record {
  told : l.best ≡ within l.floor l.ceiling (smallest (may_in l.p) (worth_in l.side (l.left - 1) l.p) l.card);
  from : l.floor ≤ l.best;
  to : l.best ≤ l.ceiling;
}

abbrev pub invariant-most-loop-card : goal.invariant-most-loop-card
invariant-most-loop-card l = record {
  told : l.best ≡ within l.floor l.ceiling (greatest (may_in l.p) (worth_in l.side (l.left - 1) l.p) l.card);
  from : l.floor ≤ l.best;
  to : l.best ≤ l.ceiling;
}
