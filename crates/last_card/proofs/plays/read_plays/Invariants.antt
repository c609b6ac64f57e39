-- `read_plays` meets its contract: what the reading comes to from a turn on is what it comes to in all. Assumes nothing.
use Rattle.std.proofs.Common.{ℕ, ◌+◌, ◌-◌, ◌*◌, ◌≤◌, List}
use Rattle.laws.specs.Events.{Event}
use Rattle.position.specs.declared.table.Table.{Table}
use Rattle.position.specs.History.{OfEvents}
use Rattle.last_card.proofs.PlayTurns.{Turned}
use Rattle.last_card.proofs.plays.read_plays.Given as goal

-- the turns that can come: cards and codes
abbrev pub turns_left : ℕ → ℕ → Table → ℕ
turns_left count i t = 41 * (count - i) + (40 - t.penalty.codes)

abbrev pub invariant-loop-i : goal.invariant-loop-i
invariant-loop-i l = record {
  place : l.i ≤ l.count.cards;
  room : l.next + 13 * turns_left l.count.cards l.i l.t ≤ l.at + 28236;
  turned : (deal : List ℕ) (trump opening : ℕ) (e : List Event) → OfEvents deal trump opening e l.initial.t l.place
      → Turned deal trump opening l.bytes l.count.cards e l.at l.t l.next l.i;
}

abbrev pub decreases-loop-i : goal.decreases-loop-i
decreases-loop-i l = turns_left l.count.cards l.i l.t
