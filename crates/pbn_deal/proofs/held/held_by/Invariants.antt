-- `pbn_deal::held::held_by` meets its contract. The loop's invariant: the bytes from `i` on make of what is held what all of them make. Assumes nothing.
use Prim.Native.Nat.{◌≤◌}
use mathlib.Core.Path.{◌≡◌}
use lib.ListN.{drop, replicate}
use Rattle.laws.specs.Cards.{no_seat, spades}
use Rattle.laws.specs.PbnReading.{held_by}
use Rattle.pbn_deal.proofs.HeldCards.{held_on}
use Rattle.pbn_deal.proofs.held.held_by.Given as goal

abbrev pub invariant-loop-b : goal.invariant-loop-b
invariant-loop-b l =
    (l.held.seat ≤ 4) × (l.held.suit ≤ 3)
    × (held_by (replicate 52 no_seat) l.first spades l.hands ≡ held_on l.held (drop l.b-index l.hands))
