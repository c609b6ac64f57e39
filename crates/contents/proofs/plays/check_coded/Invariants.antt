-- `check_coded` meets its contract: what the checks come to from a turn on is what they come to in all. Assumes nothing.
use Rattle.std.proofs.Common.{◌≡◌, ℕ, ◌+◌, ◌-◌, ◌≤◌, List, length}
use Rattle.laws.specs.Choice.{how_many}
use Rattle.laws.specs.Events.{Event}
use Rattle.laws.specs.FlatPlay.{is_card}
use Rattle.position.specs.History.{OfEvents}
use Rattle.contents.proofs.Items.{items_at}
use Rattle.contents.proofs.PlayTurns.{Turned}
use Rattle.contents.proofs.plays.check_coded.Given as goal

abbrev pub invariant-loop-i : goal.invariant-loop-i
invariant-loop-i l = record {
  count : l.n + how_many is_card (items_at l.plays l.i) ≡ l.cards;
  place : l.i ≤ length l.plays + l.at + 2;
  turned : (deal : List ℕ) (trump opening : ℕ) (e : List Event) → OfEvents deal trump opening e l.initial.t l.place → Turned deal trump opening l.plays e l.at l.t l.i l.n;
}

abbrev pub decreases-loop-i : goal.decreases-loop-i
decreases-loop-i l = length l.plays - l.i
