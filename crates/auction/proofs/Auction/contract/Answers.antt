-- `Auction::contract` meets its contract. Assumes nothing.
use Prim.Native.Nat.{ℕ, ◌+◌, ◌-◌, ◌*◌, ◌/◌, ◌%◌}
use mathlib.Core.Path.{◌≡◌}
use Rattle.laws.specs.Auction.{level_of, strain_of}
use Rattle.auction.specs.declared.Auction.{Auction}
use Rattle.auction.specs.Position.{first_place, seat_at}
use Rattle.auction.specs.Asked.{contract_of}
use Rattle.auction.proofs.Auction.contract.Goals as goal

-- the contract of a position, from how far its last bid is above one club, and the seat that stands at the place of its side and strain
told : (a : Auction) {above seat : ℕ} → above ≡ a.last - 3 → seat ≡ seat_at a.first (a.bidder % 2 * 5 + above % 5)
    → record { level = above / 5 + 1; strain = above % 5; doubling = a.doubling % 4; declarer = seat } ≡ contract_of a
unfolding contract_of level_of strain_of first_place
told a e f = rw (f, e)

pub returns : goal.returns
returns c = told _ c.saturating_sub-above.ensures (rw c.of.ensures at c.seat_at-first.ensures)
